-- Numbers as the command line writes them.
use Rattle.std.specs.Prelude.{◌==◌, ◌&&◌, ℕ, Bool, not, List, length, nat_le, nat_lt}
use Rattle.std.specs.Prelude.{Option, Some, None, if◌then◌else◌, slice_index}
use Rattle.std.specs.Str.{all_ascii_digits}
use Rattle.std.specs.Str.Parse.{digits_value}

-- a zero (48) in front of something else
abbrev pub has_leading_zero : List ℕ → Bool
has_leading_zero text = slice_index text 0 == 48 && not (length text == 1)

-- decimal digits, at least one, with no zero in front; so with no sign
abbrev pub is_plain_number : List ℕ → Bool
is_plain_number text =
    nat_lt 0 (length text) && (all_ascii_digits text && not (has_leading_zero text))

-- the number that the text writes, where it has the form and lies from low to high
abbrev pub number_in : ℕ → ℕ → List ℕ → Option ℕ
number_in low high text =
    let n = digits_value 10 text in
    if is_plain_number text && (nat_le low n && nat_le n high) then Some n else None
