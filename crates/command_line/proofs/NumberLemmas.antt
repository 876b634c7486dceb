-- What `parse` reads, against `number_in`.
use Rattle.std.proofs.Common.{arith, ◌≡◌, ℕ, ◌<◌, ◌≤◌, ◌^◌, List, Some, None, Ok, Err, length, true, false, get_or}
use Rattle.std.proofs.lemmas.Bool.Decides.{nat_tests}
use Rattle.std.proofs.lemmas.Str.Parse.{IsNumeralModel, numerals_by_value, tells_all_ascii_digits, parse_plain}
use Rattle.std.specs.Str.{all_ascii_digits}
use Rattle.std.specs.Str.Parse.{digits_value, ParsesUnsigned}
use Rattle.command_line.specs.Numbers.{number_in}
use Rattle.command_line.specs.inner.Padding.{is_padded}

digits : IsNumeralModel (λ ds. all_ascii_digits ds ≡ true) (digits_value 10)
digits = numerals_by_value _ tells_all_ascii_digits

pub number_taken : (low high n : ℕ) (bs : List ℕ) → ParsesUnsigned {E = ℕ} 64 10 bs (Ok n) → is_padded bs ≡ false
    → low ≤ n → n ≤ high → Some n ≡ number_in low high bs
number_taken low high n bs parses plain l m =
    let plus : get_or bs 0 0 ≡ 43 → ⊥ = grind (arith, nat_tests) in
    let p : ((all_ascii_digits bs ≡ true) × (0 < length bs) × (digits_value 10 bs < 2 ^ 64)) × (n ≡ digits_value 10 bs) = parse_plain digits {E = ℕ} 64 bs (Ok n) parses plus in
    grind (arith, nat_tests)

pub number_refused : (low high : ℕ) (bs : List ℕ) → ParsesUnsigned {E = ℕ} 64 10 bs (Err 0) → is_padded bs ≡ false
    → high < 2 ^ 64 → None ≡ number_in low high bs
number_refused low high bs parses plain m =
    let plus : get_or bs 0 0 ≡ 43 → ⊥ = grind (arith, nat_tests) in
    let p : ((all_ascii_digits bs ≡ true) × (0 < length bs) × (digits_value 10 bs < 2 ^ 64)) → ⊥ = parse_plain digits {E = ℕ} 64 bs (Err 0) parses plus in
    grind (arith, nat_tests)
