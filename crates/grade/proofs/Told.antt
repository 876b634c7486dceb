-- The grade that plays of one run tell.
use Rattle.std.proofs.Common.{◌≡◌, ℕ, Bool, true, false, not, List, Option, Some, None, refl, sym, ◌∙◌, subst, inl, inr}
use Rattle.std.specs.List.{All}
use Rattle.statement.specs.declared.kinds.Tri.{Tri}
use Rattle.statement.specs.declared.kinds.Tri.TheVariants.{X}
use Rattle.statement.specs.declared.lines.Fault.{Fault}
use Rattle.statement.specs.Netlists.{Netlist}
use Rattle.statement.specs.Values.{known}
use Rattle.statement.specs.Runs.{Cycle, strobe_at, shown_at}
use Rattle.netlist.specs.Netlist.{IsAcyclic}
use Rattle.netlist.specs.Conditions.{IsClosed}
use Rattle.scan_play.specs.declared.played.Played.{Played}
use Rattle.scan_play.specs.declared.played.Played.TheVariants.{Passes, Fails, Unknown}
use Rattle.scan_play.specs.Cycles.{IsCycleOf}
use Rattle.scan_play.specs.Judging.{IsJudged}
use Rattle.scan_play.specs.Passing.{IsWrong}
use Rattle.scan_play.specs.Playing.{IsStrobeMet, PlaysAs}
use Rattle.scan_play.specs.inner.Unmet.{unmet_by}
use Rattle.scan_play.proofs.Instances.{decides_tri, same_tri}
use Rattle.scan_play.proofs.PlayLemmas.{plays_as}
use Rattle.scan_play.proofs.RunLaws.{runs_once}
use Rattle.chain_test.specs.FirstWrong.{IsFirstPlace, IsFirstWrong}
use Rattle.grade.specs.Grades.{IsGraded}
use Rattle.grade.specs.inner.Told.{grade_by, grade_of, grade_wrong, is_open, is_unknown}

-- ---- a strobe that is met isn't wrong

unstrobed : (b : Bool) (v : Tri) → v ≡ X → v ≡ known b → ⊥
unstrobed true v x e = let h : X ≡ known true = sym x ∙ e in cc
unstrobed false v x e = let h : X ≡ known false = sym x ∙ e in cc

other_bit : (b : Bool) (v : Tri) (o : Option Tri) → o ≡ Some v → v ≡ known b → o ≡ Some (known (not b)) → ⊥
other_bit true v o m e w = let h : Some (known true) ≡ Some (known false) = subst (λ (u : Tri). Some u ≡ Some (known false)) e (sym m ∙ w) in cc
other_bit false v o m e w = let h : Some (known false) ≡ Some (known true) = subst (λ (u : Tri). Some u ≡ Some (known true)) e (sym m ∙ w) in cc

pub met_wrong : (cycles : List Cycle) (shown : List (List Tri)) (c o : ℕ) → IsStrobeMet cycles shown c o → IsWrong known cycles shown c o → ⊥
met_wrong cycles shown c o (inl x) w = unstrobed w.0 (strobe_at cycles c o) x w.1
met_wrong cycles shown c o (inr m) w = other_bit w.0 (strobe_at cycles c o) (shown_at shown c o) m w.1 w.2

-- ---- the grade of a line

module _ (s : Netlist) (closed : IsClosed s) (acyclic : IsAcyclic s) (cycles : List Cycle) (fit : All (IsCycleOf s) cycles) (g : Fault) where
  -- where X is shown, the strobes behind it tell
  unknown_by : (c o : ℕ) (wrong : Option (ℕ × ℕ)) → PlaysAs s (Some g) cycles (Unknown c o) → IsFirstWrong s g cycles wrong → IsGraded s g cycles (grade_wrong wrong)
  unknown_by c o None h w =
      let same = runs_once same_tri decides_tri _ (Some g) s closed acyclic _ cycles w.shown h.0 w.runs h.1 in
      record {
        shown = h.0;
        runs = h.1;
        told = (
          subst (λ r. IsFirstPlace (IsWrong known cycles r) None) same w.first,
          record { cycle = c; output = o; bit = h.2.1.0; strobe = h.2.1.1; is_shown = h.2.1.2 },
        );
      }
  unknown_by c o (Some place) h w = record { shown = w.shown; runs = w.runs; told = w.first }

  grade_played : (p : Played) (wrong : Option (ℕ × ℕ)) → PlaysAs s (Some g) cycles p → (is_unknown p ≡ true → IsFirstWrong s g cycles wrong) → IsGraded s g cycles (grade_by p wrong)
  grade_played Passes wrong h w = record { shown = h.0; runs = h.1; told = h.2 }
  grade_played (Fails c o) wrong h w = record { shown = h.0; runs = h.1; told = (h.2.1, λ k j l e. met_wrong cycles h.0 k j (h.2.0 k j l) e) }
  grade_played (Unknown c o) wrong h w = unknown_by c o wrong h (w refl)

  pub one_grade : (unmet : Option Played) (wrong : Option (ℕ × ℕ)) → IsJudged unmet_by s (Some g) cycles unmet → (is_open unmet ≡ true → IsFirstWrong s g cycles wrong)
      → IsGraded s g cycles (grade_of unmet wrong)
  one_grade None wrong j w = let h = plays_as (Some g) s cycles None fit j in record { shown = h.0; runs = h.1; told = h.2 }
  one_grade (Some p) wrong j w = grade_played p wrong (plays_as (Some g) s cycles (Some p) fit j) w
