-- Held inputs, one by one.
use Rattle.std.specs.Prelude.{ℕ, ◌≡◌, ⊤, Bool, Option, Some, None, slice_set}
use Rattle.statement.specs.Patterns.{Holds}

-- an input has the bit at which it is held, if it is
abbrev pub IsDriven : Option Bool → Option Bool → Type 0
IsDriven None bit = ⊤
IsDriven (Some own) bit = bit ≡ Some own

-- an input is held, if at some bit
abbrev pub hold_set : Holds → ℕ → Option Bool → Holds
hold_set holds input None = holds
hold_set holds input (Some bit) = slice_set holds input (Some bit)
