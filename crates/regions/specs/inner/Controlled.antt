-- How many pins of a gate have the controlling value: none, one, or more.
use Rattle.std.specs.Prelude.{ℕ, ◌≡◌, ◌<◌, Bool, false, not, ◌&&◌, ◌||◌, List, [], ◌∷◌, map}
use Rattle.std.specs.List.{list_any}
use Rattle.statement.specs.declared.kinds.Kind.{Kind}
use Rattle.events.specs.Words.{bit_of}
use Rattle.regions.specs.Paths.{bits_at}
use Rattle.regions.specs.Sensitized.{is_noncontrolling}

-- a value is the controlling one
abbrev pub one_controls : Kind → List Bool → Bool
one_controls kind vs = list_any (λ v. not (is_noncontrolling kind v)) vs

-- two values are, at two places
abbrev pub two_control : Kind → List Bool → Bool
two_control kind [] = false
two_control kind (v ∷ vs) = (not (is_noncontrolling kind v) && one_controls kind vs) || two_control kind vs

-- words that have the patterns under which one of these pins at least, and two of them, have the controlling value
pub record AreControlled (kind : Kind) (pins values : List ℕ) (one two : ℕ) : Type 0 where
  pub one_is : (j : ℕ) → j < 64 → bit_of j one ≡ one_controls kind (map (bits_at values j) pins)
  pub two_is : (j : ℕ) → j < 64 → bit_of j two ≡ two_control kind (map (bits_at values j) pins)
