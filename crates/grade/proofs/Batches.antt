-- The grades of the lines of a batch.
use Rattle.std.proofs.Common.{◌≡◌, ℕ, Bool, true, false, ◌||◌, List, [], ◌∷◌, map, Option, None, refl, sym, ◌∙◌}
use Rattle.std.specs.List.{All, AllZip, list_any, zip}
use Rattle.statement.specs.declared.lines.Fault.{Fault}
use Rattle.statement.specs.Netlists.{Netlist}
use Rattle.statement.specs.Runs.{Cycle}
use Rattle.netlist.specs.Netlist.{IsAcyclic}
use Rattle.netlist.specs.Conditions.{IsClosed}
use Rattle.scan_play.specs.declared.played.Played.{Played}
use Rattle.scan_play.specs.Cycles.{IsCycleOf}
use Rattle.scan_play.specs.inner.Unmet.{unmet_by}
use Rattle.lane_play.specs.Judged.{AreJudged}
use Rattle.chain_test.specs.FirstWrong.{IsFirstWrong}
use Rattle.grade.specs.Grades.{IsGraded}
use Rattle.grade.specs.inner.Told.{grade_of, grade_told, is_open}
use Rattle.grade.proofs.Told.{one_grade}

no_either : (a b : Bool) → a || b ≡ false → (a ≡ false) × (b ≡ false)
no_either false false e = (refl, refl)
no_either false true e = cc
no_either true b e = cc

both_ways : {P : Type 0} (a : Bool) → a ≡ false → a ≡ true → P
both_ways a f t = let h : false ≡ true = sym f ∙ t in cc

module _ (s : Netlist) (closed : IsClosed s) (acyclic : IsAcyclic s) (cycles : List Cycle) (fit : All (IsCycleOf s) cycles) where
  -- where the first strobes that aren't met tell of all lines
  pub all_told : (lines : List Fault) (unmet : List (Option Played)) → AreJudged unmet_by s lines cycles unmet → list_any is_open unmet ≡ false
      → AllZip (λ f grade. IsGraded s f cycles grade) lines (map grade_told unmet)
  all_told [] [] j e = tt
  all_told [] (u ∷ us) j e = absurd j
  all_told (f ∷ fs) [] j e = absurd j
  all_told (f ∷ fs) (u ∷ us) j e =
      let n = no_either (is_open u) (list_any is_open us) e in
      (one_grade s closed acyclic cycles fit f u None j.0 (λ t. both_ways (is_open u) n.0 t), all_told fs us j.1 n.1)

  -- where the first places that are known to be wrong are asked too
  pub all_graded : (lines : List Fault) (unmet : List (Option Played)) (wrong : List (Option (ℕ × ℕ))) → AreJudged unmet_by s lines cycles unmet
      → AllZip (λ f found. IsFirstWrong s f cycles found) lines wrong
      → AllZip (λ f grade. IsGraded s f cycles grade) lines (map (λ p. grade_of p.0 p.1) (zip unmet wrong))
  all_graded [] [] [] j w = tt
  all_graded [] [] (v ∷ vs) j w = absurd w
  all_graded [] (u ∷ us) wrong j w = absurd j
  all_graded (f ∷ fs) [] wrong j w = absurd j
  all_graded (f ∷ fs) (u ∷ us) [] j w = absurd w
  all_graded (f ∷ fs) (u ∷ us) (v ∷ vs) j w = (one_grade s closed acyclic cycles fit f u v j.0 (λ t. w.0), all_graded fs us vs j.1 w.1)
