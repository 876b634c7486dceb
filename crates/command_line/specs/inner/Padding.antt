-- Numbers with more in front than their digits.
use Rattle.std.specs.Prelude.{◌==◌, ◌||◌, ℕ, Bool, List, slice_index}
use Rattle.command_line.specs.Numbers.{has_leading_zero}

-- a plus (43) or a zero in front
abbrev pub is_padded : List ℕ → Bool
is_padded text = slice_index text 0 == 43 || has_leading_zero text
