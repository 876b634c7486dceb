-- One bit put into words, or taken out, and the least bit of a word.
use Rattle.std.proofs.Common.{◌≡◌, ℕ, ◌+◌, ◌*◌, ◌/◌, ◌%◌, ◌^◌, ◌<◌, ◌||◌, ◌&&◌, not, Bool, true, false, List, length, get_or, set, refl, sym, ◌∙◌, ap, subst, inl, inr, eqb, arith, bit_and, bit_or}
use Rattle.std.specs.Int.{bit_at, w64, bit_not, trailing_zeros}
use Rattle.std.proofs.lemmas.Bool.{cases_eq, cases_lt, eqb-true, eq-eqb, ne_eqb, or_right}
use Rattle.std.proofs.lemmas.List.{length-set, get_or-set_same, get_or-set_other}
use Rattle.std.proofs.lemmas.Nat.Bits.{bit_at-zero, bit_at_set_same, bit_at_set_other, bit_at_clear_same, bit_at_clear_other, bit_at-trailing_zeros}
use Rattle.events.specs.inner.Bitmaps.{has_bit, IsPut, IsTakenOut, IsLeastIn}

pub or_false : (b : Bool) → (b || false) ≡ b
or_false true = refl
or_false false = refl

pub and_true : (b : Bool) → (b && true) ≡ b
and_true true = refl
and_true false = refl

pub and_not_true : (b : Bool) → (b && not true) ≡ false
and_not_true true = refl
and_not_true false = refl

pub same_place : (q p : ℕ) → q / 64 ≡ p / 64 → q % 64 ≡ p % 64 → q ≡ p
same_place q p e f = omega arith

pub low_bit : (p : ℕ) → p % 64 < 64
low_bit p = omega arith

-- a word with a bit isn't 0
pub bit_some : (word k : ℕ) → bit_at word k ≡ 1 → 0 < word
bit_some word k h = elim (cases_eq word 0) [
  | inl e ↦ absurd (let z : bit_at word k ≡ 0 = ap (λ x. bit_at x k) e ∙ bit_at-zero k in let b : bit_at word k ≡ 1 = h in omega arith)
  | inr ne ↦ omega arith
]

module _ (words : List ℕ) (p x : ℕ) (l : p / 64 < length words) (is : x ≡ get_or words (p / 64) 0) where
  -- a bit of a word that is written
  written : (word q : ℕ) → q / 64 ≡ p / 64 → has_bit (set words (p / 64) word) q ≡ eqb (bit_at word (q % 64)) 1
  written word q e = ap (λ v. eqb (bit_at v (q % 64)) 1) (ap (λ w. get_or (set words (p / 64) word) w 0) e ∙ get_or-set_same words (p / 64) word 0 l)

  -- a bit of another word
  unwritten : (word q : ℕ) → (q / 64 ≡ p / 64 → ⊥) → has_bit (set words (p / 64) word) q ≡ has_bit words q
  unwritten word q ne = ap (λ v. eqb (bit_at v (q % 64)) 1) (get_or-set_other words (p / 64) (q / 64) word 0 ne)

  before : (q : ℕ) → q / 64 ≡ p / 64 → has_bit words q ≡ eqb (bit_at x (q % 64)) 1
  before q e = ap (λ v. eqb (bit_at v (q % 64)) 1) (ap (λ w. get_or words w 0) e ∙ sym is)

  differs : (q : ℕ) → (q ≡ p → ⊥) → eqb q p ≡ false
  differs q ne = ne_eqb q p ne

  pub put_is : (word : ℕ) → word ≡ bit_or x (1 * 2 ^ (p % 64) % 2 ^ 64) → IsPut words (set words (p / 64) word) p
  put_is word made =
      let one : bit_at word (p % 64) ≡ 1 = ap (λ v. bit_at v (p % 64)) made ∙ bit_at_set_same w64 x (p % 64) (low_bit p) in
      record {
        size = length-set words (p / 64) word;
        has = λ q. elim (cases_eq (q / 64) (p / 64)) [
          | inl e ↦ elim (cases_eq (q % 64) (p % 64)) [
            | inl f ↦
                let s : q ≡ p = same_place q p e f in
                written word q e ∙ (eq-eqb (bit_at word (q % 64)) 1 (ap (λ k. bit_at word k) f ∙ one) ∙ sym (or_right (has_bit words q) (eqb q p) (eq-eqb q p s)))
            | inr ne ↦
                let other : bit_at word (q % 64) ≡ bit_at x (q % 64) = ap (λ v. bit_at v (q % 64)) made ∙ bit_at_set_other w64 x (p % 64) (low_bit p) (q % 64) ne in
                written word q e ∙ (ap (λ v. eqb v 1) other ∙ (sym (before q e)
                ∙ (sym (or_false (has_bit words q)) ∙ ap (λ b. has_bit words q || b) (sym (differs q (λ s. ne (ap (λ v. v % 64) s)))))))
          ]
          | inr ne ↦ unwritten word q ne ∙ (sym (or_false (has_bit words q)) ∙ ap (λ b. has_bit words q || b) (sym (differs q (λ s. ne (ap (λ v. v / 64) s)))))
        ];
        word = subst (λ v. 0 < v) (sym (get_or-set_same words (p / 64) word 0 l)) (bit_some word (p % 64) one);
        others = λ w ne. get_or-set_other words (p / 64) w word 0 ne;
      }

  pub taken_is : (word : ℕ) → word ≡ bit_and x (bit_not w64 (1 * 2 ^ (p % 64) % 2 ^ 64)) → IsTakenOut words (set words (p / 64) word) p
  taken_is word made =
      let none : bit_at word (p % 64) ≡ 0 = ap (λ v. bit_at v (p % 64)) made ∙ bit_at_clear_same w64 x (p % 64) (low_bit p) in
      record {
        size = length-set words (p / 64) word;
        has = λ q. elim (cases_eq (q / 64) (p / 64)) [
          | inl e ↦ elim (cases_eq (q % 64) (p % 64)) [
            | inl f ↦
                let s : q ≡ p = same_place q p e f in
                let z : bit_at word (q % 64) ≡ 0 = ap (λ k. bit_at word k) f ∙ none in
                written word q e ∙ (ne_eqb (bit_at word (q % 64)) 1 (λ o. let o' : bit_at word (q % 64) ≡ 1 = o in omega arith)
                ∙ (sym (and_not_true (has_bit words q)) ∙ ap (λ b. has_bit words q && not b) (sym (eq-eqb q p s))))
            | inr ne ↦
                let other : bit_at word (q % 64) ≡ bit_at x (q % 64) = ap (λ v. bit_at v (q % 64)) made ∙ bit_at_clear_other w64 x (p % 64) (low_bit p) (q % 64) (low_bit q) ne in
                written word q e ∙ (ap (λ v. eqb v 1) other ∙ (sym (before q e)
                ∙ (sym (and_true (has_bit words q)) ∙ ap (λ b. has_bit words q && not b) (sym (differs q (λ s. ne (ap (λ v. v % 64) s)))))))
          ]
          | inr ne ↦ unwritten word q ne ∙ (sym (and_true (has_bit words q)) ∙ ap (λ b. has_bit words q && not b) (sym (differs q (λ s. ne (ap (λ v. v / 64) s)))))
        ];
        others = λ w ne. get_or-set_other words (p / 64) w word 0 ne;
      }

pub least_is : (words : List ℕ) (w place : ℕ) → place ≡ w * 64 + trailing_zeros w64 (get_or words w 0) → 0 < get_or words w 0 → get_or words w 0 < 2 ^ 64
    → IsLeastIn words w place
least_is words w place e some small =
    let t = bit_at-trailing_zeros w64 (get_or words w 0) some small in
    let l : trailing_zeros w64 (get_or words w 0) < 64 = t.0 in
    let at : place / 64 ≡ w = omega arith in
    let bit : place % 64 ≡ trailing_zeros w64 (get_or words w 0) = omega arith in
    record {
      here = at;
      has = eq-eqb (bit_at (get_or words (place / 64) 0) (place % 64)) 1 (ap (λ v. bit_at (get_or words v 0) (place % 64)) at ∙ (ap (λ k. bit_at (get_or words w 0) k) bit ∙ t.1));
      least = λ q f h. elim (cases_lt (q % 64) (trailing_zeros w64 (get_or words w 0))) [
        | inl low ↦
            let z : bit_at (get_or words w 0) (q % 64) ≡ 0 = t.2 (q % 64) low in
            let o : bit_at (get_or words (q / 64) 0) (q % 64) ≡ 1 = eqb-true (bit_at (get_or words (q / 64) 0) (q % 64)) 1 h in
            let s : bit_at (get_or words (q / 64) 0) (q % 64) ≡ bit_at (get_or words w 0) (q % 64) = ap (λ v. bit_at (get_or words v 0) (q % 64)) f in
            absurd (omega arith)
        | inr high ↦ omega arith
      ];
    }

-- where a bit is 1 the word isn't 0
pub word_some : (words : List ℕ) (q : ℕ) → has_bit words q ≡ true → 0 < get_or words (q / 64) 0
word_some words q h = bit_some (get_or words (q / 64) 0) (q % 64) (eqb-true (bit_at (get_or words (q / 64) 0) (q % 64)) 1 h)

-- where all words are 0 no bit is 1
pub no_bit : (words : List ℕ) → ((w : ℕ) → get_or words w 0 ≡ 0) → (q : ℕ) → has_bit words q ≡ false
no_bit words none q = ap (λ v. eqb v 1) (ap (λ v. bit_at v (q % 64)) (none (q / 64)) ∙ bit_at-zero (q % 64))
