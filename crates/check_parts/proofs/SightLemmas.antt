-- What is found of a fault that is detected, and what a report says of it.
use Rattle.std.proofs.Common.{◌≡◌, ◌≢◌, ℕ, Bool, MatchBool, List, Option, Some, sym, subst}
use Rattle.std.specs.Str.{bytes_eq}
use Rattle.statement.specs.declared.lines.Point.{Point}
use Rattle.check_parts.specs.Sights.{IsSeenBy}
use Rattle.check_parts.proofs.Matches.{texts_match}

module _ (A : ℕ → Point → ℕ → List ℕ → Type 0) (found : Option (ℕ × Point)) (last : ℕ) (point : Point) (is : found ≡ Some (last, point)) (cycle : ℕ) (pin : List ℕ)
    (seen : A last point cycle pin) (once : (d : ℕ) (other : List ℕ) → A last point d other → (d ≡ cycle) × (other ≡ pin)) where
  as_found : (p d : ℕ) (other : List ℕ) → IsSeenBy A found p d other → IsSeenBy A (Some (last, point)) p d other
  as_found p d other so = subst (λ (o : Option (ℕ × Point)). IsSeenBy A o p d other) is so

  -- in another cycle it isn't seen
  pub unseen_cycle : (p d : ℕ) (other : List ℕ) → d ≢ cycle → IsSeenBy A found p d other → ⊥
  unseen_cycle p d other apart so = let w = as_found p d other so in apart (once d other w.1).0

  -- in its cycle it is seen at its pin
  pub seen_pin : (b : Bool) (p d : ℕ) (other : List ℕ) → b ≡ bytes_eq other pin → p ≡ last → d ≡ cycle → MatchBool b (IsSeenBy A found p d other) (IsSeenBy A found p d other → ⊥)
  seen_pin b p d other eq place same =
      texts_match (IsSeenBy A found p d other) b other pin eq
      (λ pins.
      let at : A last point d other = subst (λ (t : List ℕ). A last point d t) (sym pins) (subst (λ (k : ℕ). A last point k pin) (sym same) seen) in
      subst (λ (o : Option (ℕ × Point)). IsSeenBy A o p d other) (sym is) (place, at))
      (λ so. let w = as_found p d other so in (once d other w.1).1)
