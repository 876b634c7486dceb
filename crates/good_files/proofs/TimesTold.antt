-- How often each fault is detected, as good files say it.
use Rattle.std.proofs.Common.{◌≡◌, ℕ, ◌<◌, ◌↔◌, inl, inr, List, [], ◌∷◌, length, MatchOption, Option, None, Some, refl, sym, ◌∙◌, subst, arith}
use Rattle.std.specs.List.{All, AllZip, slice_get}
use Rattle.std.specs.Option.{IsSomeAnd}
use Rattle.std.proofs.lemmas.List.Elements.{All-head}
use Rattle.std.proofs.lemmas.Slice.Zip.{AllZip-left}
use Rattle.statement.specs.declared.lines.Fault.{Fault}
use Rattle.statement.specs.Netlists.{Netlist}
use Rattle.statement.specs.Patterns.{Pattern}
use Rattle.statement.specs.Faults.{universe_of}
use Rattle.word_sim.specs.Hits.{IsNeverDetected}
use Rattle.report.specs.Reports.{Times}
use Rattle.detections.specs.Times.{IsDetectedBy, IsTimes}
use Rattle.run_report.specs.Times.{HasTimes}

-- what holds of two lists, place by place, holds at each place
some_at : {A B : Type 0} (R : A → B → Type 0) (xs : List A) (ys : List B) (k : ℕ) (x : A) → AllZip R xs ys → slice_get xs k ≡ Some x → IsSomeAnd (slice_get ys k) (R x)
some_at R xs ys k x all at = subst (λ o. MatchOption o (Unit {0}) (λ z. IsSomeAnd (slice_get ys k) (R z))) at (AllZip-left R xs ys all k)

some_of : {X : Type 0} (o : Option X) (P : X → Type 0) → IsSomeAnd o P → (x : X) × (o ≡ Some x) × P x
some_of None P h = absurd h
some_of (Some x) P h = (x, refl, h)

module _ (n : Netlist) (patterns : List Pattern) (f : Fault) where
  no_places : (places : List ℕ) → All (IsDetectedBy n patterns f) places → IsNeverDetected n patterns f → length places ≡ 0
  no_places [] detect never = refl
  no_places (p ∷ ps) detect never = let here = All-head (IsDetectedBy n patterns f) p ps detect in absurd (never p here.0 here.1)

  zero_is_never : (most times : ℕ) → 0 < most → IsTimes n patterns most f times → (times ≡ 0) ↔ IsNeverDetected n patterns f
  zero_is_never most times some t = (
    λ zero place point here. elim t.all [
      | inl full ↦ absurd (omega (arith, some, zero, full))
      | inr all ↦ (let within = (all place (point, here)).1 in absurd (omega (arith, within, t.count, zero)))
    ],
    λ never. sym t.count ∙ no_places t.places t.detect never,
  )

pub told_at : (n : Netlist) (patterns : List Pattern) (t : Times) → HasTimes n patterns t → 0 < t.most → (place : ℕ) (f : Fault) → slice_get (universe_of n) place ≡ Some f
    → (times : ℕ) × (slice_get t.of place ≡ Some times) × ((times ≡ 0) ↔ IsNeverDetected n patterns f)
told_at n patterns t (inl none) some place f at = absurd (omega (arith, some, none))
told_at n patterns t (inr all) some place f at =
    let w = some_of (slice_get t.of place) (IsTimes n patterns t.most f) (some_at (IsTimes n patterns t.most) (universe_of n) t.of place f all at) in
    (w.0, w.1, zero_is_never n patterns f t.most w.0 some w.2)
