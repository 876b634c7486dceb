-- Numbers up to a byte.
use Rattle.std.proofs.Common.{◌≡◌, ◌≢◌, ◌<◌, ◌^◌, ℕ, List, [], ◌∷◌, ◌++◌, decimal, sym, ◌∙◌, subst, arith, append_assoc}
use Rattle.std.specs.List.{All}
use Rattle.std.specs.Str.Parse.{AllDigits}
use Rattle.std.proofs.lemmas.Fmt.{decimal_injective, decimal_is_IsNumeral}
use Rattle.std.proofs.lemmas.List.Elements.{All-cons, All-nil}
use Rattle.std.proofs.lemmas.Str.Parse.{digit_from_value}
use Rattle.plain_text.proofs.Parts.{byte_inside, same_parts}
use Rattle.refutation_text.specs.inner.Parts.{numbered, IsAt, IsMark, IsSmall, NoneAt}
use Rattle.refutation_text.proofs.Codes.{IsCode}

digits_no_blank : (ds : List ℕ) → AllDigits 10 ds → All (λ b. b ≢ 32) ds
digits_no_blank [] h = All-nil (λ b. b ≢ 32)
digits_no_blank (d ∷ ds) h =
    let r = digit_from_value d h.0 in
    All-cons (λ b. b ≢ 32) d ds (λ e. absurd (omega (arith, r, e))) (digits_no_blank ds h.1)

digits_below : (c : ℕ) → 57 < c → (ds : List ℕ) → AllDigits 10 ds → All (λ b. b ≢ c) ds
digits_below c high [] h = All-nil (λ b. b ≢ c)
digits_below c high (d ∷ ds) h =
    let r = digit_from_value d h.0 in
    All-cons (λ b. b ≢ c) d ds (λ e. absurd (omega (arith, r, high, e))) (digits_below c high ds h.1)

pub no_blank : IsMark 32
no_blank k l = digits_no_blank (decimal k) (decimal_is_IsNumeral k (omega (arith, l))).0.1

pub no_colon : IsMark 58
no_colon k l = digits_below 58 (omega arith) (decimal k) (decimal_is_IsNumeral k (omega (arith, l))).0.1

pub no_semicolon : IsMark 59
no_semicolon k l = digits_below 59 (omega arith) (decimal k) (decimal_is_IsNumeral k (omega (arith, l))).0.1

pub no_tilde : IsMark 126
no_tilde k l = digits_below 126 (omega arith) (decimal k) (decimal_is_IsNumeral k (omega (arith, l))).0.1

pub with_mark : (mark k : ℕ) (r : List ℕ) → numbered mark k ++ r ≡ decimal k ++ mark ∷ r
with_mark mark k r = append_assoc (decimal k) (mark ∷ []) r

module _ (mark : ℕ) (apart : IsMark mark) where
  pub same_number : IsCode (numbered mark) IsSmall
  same_number x y r s p q e =
      let m = same_parts mark (decimal x) (decimal y) r s (apart x p) (apart y q) (sym (with_mark mark x r) ∙ (e ∙ with_mark mark y s)) in
      (decimal_injective x y (omega (arith, p)) (omega (arith, q)) m.0, m.1)

  module _ (text front behind : List ℕ) (lacks : All (λ b. b ≢ mark) front) (parts : text ≡ front ++ mark ∷ behind) where
    front_is : (k : ℕ) (rest : List ℕ) → IsAt (numbered mark) IsSmall text k rest → front ≡ decimal k
    front_is k rest at = (same_parts mark front (decimal k) behind rest lacks (apart k at.valid) (sym parts ∙ (at.parts ∙ with_mark mark k rest))).0

    pub no_number : ((k : ℕ) → k < 2 ^ 64 → front ≢ decimal k) → NoneAt (numbered mark) IsSmall text
    no_number none k rest at = let l = at.valid in none k (omega (arith, l)) (front_is k rest at)

    pub too_large : (j : ℕ) → j < 2 ^ 64 → front ≡ decimal j → ¬ IsSmall j → NoneAt (numbered mark) IsSmall text
    too_large j bound is large k rest at =
        let l = at.valid in
        let same : j ≡ k = decimal_injective j k bound (omega (arith, l)) (sym is ∙ front_is k rest at) in
        large (subst IsSmall (sym same) l)

  pub no_mark : (text : List ℕ) → All (λ b. b ≢ mark) text → NoneAt (numbered mark) IsSmall text
  no_mark text none k rest at = byte_inside mark (decimal k) rest (subst (All (λ b. b ≢ mark)) (at.parts ∙ with_mark mark k rest) none)
