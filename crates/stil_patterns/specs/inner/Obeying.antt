-- Held inputs, one by one.
use Rattle.std.specs.Prelude.{◌≡◌, Bool, Option, Some}

-- an input that is held has its bit
abbrev pub IsMet : Option Bool → Bool → Type 0
IsMet held bit = (b : Bool) → held ≡ Some b → bit ≡ b
