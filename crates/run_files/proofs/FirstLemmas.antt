-- What is told of faults, as marks.
use Rattle.std.proofs.Common.{◌≡◌, ℕ, zero, suc, ◌<◌, ◌↔◌, Bool, false, true, true≢false, cond, List, [], ◌∷◌, map, get_or, Option, Some, None, refl, sym, ◌∙◌, subst, arith}
use Rattle.std.specs.List.{AllZip, slice_get}
use Rattle.std.specs.Option.{is_some}
use Rattle.std.proofs.lemmas.List.{length-map}
use Rattle.std.proofs.lemmas.Slice.Zip.{AllZip-long}
use Rattle.statement.specs.declared.lines.Fault.{Fault}
use Rattle.statement.specs.declared.lines.Point.{Point}
use Rattle.statement.specs.Netlists.{Netlist}
use Rattle.statement.specs.Patterns.{IsDetectedAt, Pattern}
use Rattle.word_sim.specs.Hits.{LastDetected}
use Rattle.run_files.specs.inner.Searches.{AreDetectedMarks, IsSeenBy}
use mir.Val.{bool_byte}

pub as_one : (b : Bool) → bool_byte b ≡ cond b 1 0
as_one true = refl
as_one false = refl

pub one_small : (b : Bool) → cond b 1 0 < 2
one_small true = omega arith
one_small false = omega arith

module _ (n : Netlist) (patterns : List Pattern) where
  tells : (fs : List Fault) (os : List (Option (ℕ × Point))) → AllZip (LastDetected n patterns) fs os → (k : ℕ) (f : Fault) → slice_get fs k ≡ Some f
      → (get_or (map is_some os) k false ≡ true) ↔ IsSeenBy n patterns f
  tells [] os all k f at = cc
  tells (g ∷ fs) [] all k f at = elim all [ ]
  tells (g ∷ fs) (None ∷ os) all zero f at =
      let same : g ≡ f = cc in
      ((λ marked. absurd (true≢false (sym marked))), (λ seen. absurd (all.0 seen.0 seen.1 (subst (λ (h : Fault). IsDetectedAt n patterns h seen.0 seen.1) (sym same) seen.2))))
  tells (g ∷ fs) (Some w ∷ os) all zero f at =
      let same : g ≡ f = cc in
      ((λ marked. (w.0, w.1, subst (λ (h : Fault). IsDetectedAt n patterns h w.0 w.1) same all.0.here)), (λ seen. refl))
  tells (g ∷ fs) (o ∷ os) all (suc k) f at = tells fs os all.1 k f at

  pub marks_tell : (fs : List Fault) (os : List (Option (ℕ × Point))) → AllZip (LastDetected n patterns) fs os → AreDetectedMarks n patterns fs (map is_some os)
  marks_tell fs os all = record { size = length-map os is_some ∙ AllZip-long (LastDetected n patterns) fs os all; each = tells fs os all }
