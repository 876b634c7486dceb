-- Numbers and their texts.
use Rattle.std.proofs.Common.{◌≡◌, ◌≢◌, ℕ, ◌^◌, ◌<◌, Bool, false, List, Result, Ok, sym, ◌∙◌, ap, subst, nat_eq, decimal, arith}
use Rattle.std.specs.Cmp.Lexicographic.{other_text, pointwise}
use Rattle.std.specs.Str.{IsUtf8}
use Rattle.std.specs.Str.Parse.{ParsesUnsigned}
use Rattle.std.proofs.lemmas.Fmt.{IsAscii-decimal, parse-decimal}
use Rattle.std.proofs.lemmas.Str.{IsUtf8-from_ascii}

pub decimal_is_text : (k : ℕ) (digits : List ℕ) → k < 2 ^ 64 → digits ≡ decimal k → IsUtf8 digits
decimal_is_text k digits l e = subst IsUtf8 (sym e) (IsUtf8-from_ascii (decimal k) (IsAscii-decimal k (omega arith)))

pub decimal_parses : {E : Type 0} (k : ℕ) (text digits : List ℕ) (r : Result ℕ E) → k < 2 ^ 64 → digits ≡ decimal k → text ≡ digits → ParsesUnsigned 64 10 text r → r ≡ Ok k
decimal_parses k text digits r l e is p = parse-decimal 64 k text r l (omega arith) (is ∙ e) p

-- a number that is written otherwise
pub other_decimal : (k number : ℕ) (digits written : List ℕ) (same : Bool) → digits ≡ decimal k → number ≡ k → written ≡ decimal number → same ≡ pointwise nat_eq written digits → same ≢ false
other_decimal k number digits written same e is w t f =
    other_text written digits (sym f ∙ t) (w ∙ (ap decimal is ∙ sym e))
