-- The highest bit of a word.
use Rattle.std.proofs.Common.{◌≡◌, ℕ, suc, ◌-◌, ◌/◌, ◌%◌, ◌^◌, ◌<◌, ◌≤◌, true, false, ◌∙◌, ap, subst, eqb, arith}
use Rattle.std.specs.Int.{bit_at, w64, leading_zeros}
use Rattle.std.proofs.lemmas.Bool.{eq-eqb, ne_eqb}
use Rattle.std.proofs.lemmas.Nat.{leading_top, le-div, div_below, pow_pos}
use Rattle.std.proofs.Math.Nat.{pow-succ'}
use Rattle.std.proofs.lemmas.Nat.Bits.{bit_at_above}
use Rattle.events.specs.Words.{bit_of}

-- the highest bit, and none above it
pub highest : (a k : ℕ) → 0 < a → a < 2 ^ 64 → k ≡ 63 - leading_zeros w64 a → (k < 64) × (bit_of k a ≡ true) × ((i : ℕ) → k < i → bit_of i a ≡ false)
highest a k some small is =
    let t = leading_top 64 a some small in
    let e : k ≡ t.0 = omega (arith, t.1, is) in
    let one : a / 2 ^ t.0 ≡ 1 =
    (let low : 1 ≤ a / 2 ^ t.0 = le-div 1 a (2 ^ t.0) (pow_pos t.0) (omega (arith, t.2)) in
    let high : a / 2 ^ t.0 < 2 = div_below a (2 ^ t.0) 2 (pow_pos t.0) (subst (λ v. a < v) (pow-succ' 2 t.0) t.3) in
    omega arith) in
    let here : bit_at a t.0 ≡ 1 = ap (λ x. x % 2) one in (
      omega (arith, t.1),
      ap (λ j. eqb (bit_at a j) 1) e ∙ eq-eqb (bit_at a t.0) 1 here,
      λ i l. let z : bit_at a i ≡ 0 = bit_at_above a (suc t.0) i t.3 (omega arith) in ne_eqb (bit_at a i) 1 (λ o. omega arith),
    )
