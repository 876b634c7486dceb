-- One bit of 128: what is done to all bits is done to it.
use Rattle.std.proofs.Common.{◌≡◌, ◌≢◌, ℕ, suc, zero, ◌/◌, ◌%◌, ◌<◌, Bool, true, false, not, ◌&&◌, ◌||◌, cond, refl, ◌∙◌, ap, eqb, arith, bit_and, bit_or}
use Rattle.std.specs.Int.{bit_at, bit_not, w64}
use Rattle.std.proofs.lemmas.Bool.{eq-eqb}
use Rattle.std.proofs.lemmas.Nat.Bits.{bit_at_set_same, bit_at_set_other, bit_at_clear_same, bit_at_clear_other}
use Rattle.events.specs.Words.{bit_of, ones}
use Rattle.events.proofs.Bits.{low_bit, same_place}
use Rattle.events.proofs.WordBits.{bit_none, bit_not_word, bit_of_and, bit_of_or, bit_of_xor, bit_ones}
use Rattle.lane_play.specs.declared.bits.Bits.{Bits}
use Rattle.lane_play.specs.inner.Bits.{all_bits, bit_in, bits_and, bits_not, bits_or, bits_xor, no_bits, one_at, put, put_in, with_bit, word_of}

-- ---- word by word

word_and : (p q : Bits) (i j : ℕ) → bit_of j (word_of i (bits_and p q)) ≡ (bit_of j (word_of i p) && bit_of j (word_of i q))
word_and p q zero j = bit_of_and p.low q.low j
word_and p q (suc i) j = bit_of_and p.high q.high j

word_or : (p q : Bits) (i j : ℕ) → bit_of j (word_of i (bits_or p q)) ≡ (bit_of j (word_of i p) || bit_of j (word_of i q))
word_or p q zero j = bit_of_or p.low q.low j
word_or p q (suc i) j = bit_of_or p.high q.high j

word_xor : (p q : Bits) (i j : ℕ) → bit_of j (word_of i (bits_xor p q)) ≡ cond (bit_of j (word_of i p)) (not (bit_of j (word_of i q))) (bit_of j (word_of i q))
word_xor p q zero j = bit_of_xor p.low q.low j
word_xor p q (suc i) j = bit_of_xor p.high q.high j

word_not : (p : Bits) (i j : ℕ) → j < 64 → bit_of j (word_of i (bits_not p)) ≡ not (bit_of j (word_of i p))
word_not p zero j l = bit_not_word j l p.low
word_not p (suc i) j l = bit_not_word j l p.high

word_all : (i : ℕ) → word_of i all_bits ≡ ones
word_all zero = refl
word_all (suc i) = refl

word_none : (i : ℕ) → word_of i no_bits ≡ 0
word_none zero = refl
word_none (suc i) = refl

-- ---- one bit

pub bit_in_and : (p q : Bits) (k : ℕ) → bit_in k (bits_and p q) ≡ (bit_in k p && bit_in k q)
bit_in_and p q k = word_and p q (k / 64) (k % 64)

pub bit_in_or : (p q : Bits) (k : ℕ) → bit_in k (bits_or p q) ≡ (bit_in k p || bit_in k q)
bit_in_or p q k = word_or p q (k / 64) (k % 64)

pub bit_in_xor : (p q : Bits) (k : ℕ) → bit_in k (bits_xor p q) ≡ cond (bit_in k p) (not (bit_in k q)) (bit_in k q)
bit_in_xor p q k = word_xor p q (k / 64) (k % 64)

pub bit_in_not : (p : Bits) (k : ℕ) → bit_in k (bits_not p) ≡ not (bit_in k p)
bit_in_not p k = word_not p (k / 64) (k % 64) (low_bit k)

pub bit_in_all : (k : ℕ) → bit_in k all_bits ≡ true
bit_in_all k = ap (bit_of (k % 64)) (word_all (k / 64)) ∙ bit_ones (k % 64) (low_bit k)

pub bit_in_none : (k : ℕ) → bit_in k no_bits ≡ false
bit_in_none k = ap (bit_of (k % 64)) (word_none (k / 64)) ∙ bit_none (k % 64) (low_bit k)

-- ---- one bit becomes another

put_same : (b : Bool) (j w : ℕ) → j < 64 → bit_of j (put b j w) ≡ b
put_same true j w l = eq-eqb (bit_at (bit_or w (one_at j)) j) 1 (bit_at_set_same w64 w j l)
put_same false j w l =
    let z : bit_at (bit_and w (bit_not w64 (one_at j))) j ≡ 0 = bit_at_clear_same w64 w j l in
    ap (λ x. eqb x 1) z

put_other : (b : Bool) (j k w : ℕ) → j < 64 → k < 64 → k ≢ j → bit_of k (put b j w) ≡ bit_of k w
put_other true j k w l m ne = ap (λ x. eqb x 1) (bit_at_set_other w64 w j l k ne)
put_other false j k w l m ne = ap (λ x. eqb x 1) (bit_at_clear_other w64 w j l k m ne)

put_in_same : (i j : ℕ) (b : Bool) (p : Bits) → j < 64 → bit_of j (word_of i (put_in i j b p)) ≡ b
put_in_same zero j b p l = put_same b j p.low l
put_in_same (suc i) j b p l = put_same b j p.high l

put_in_other : (i j h k : ℕ) (b : Bool) (p : Bits) → j < 64 → k < 64 → i < 2 → h < 2 → (h ≡ i → k ≢ j) → bit_of k (word_of h (put_in i j b p)) ≡ bit_of k (word_of h p)
put_in_other zero j zero k b p l m s t ne = put_other b j k p.low l m (ne refl)
put_in_other zero j (suc h) k b p l m s t ne = refl
put_in_other (suc i) j zero k b p l m s t ne = refl
put_in_other (suc i) j (suc h) k b p l m s t ne = put_other b j k p.high l m (ne (omega (arith, s, t)))

pub with_bit_same : (k : ℕ) (b : Bool) (p : Bits) → bit_in k (with_bit k b p) ≡ b
with_bit_same k b p = put_in_same (k / 64) (k % 64) b p (low_bit k)

pub with_bit_other : (k j : ℕ) (b : Bool) (p : Bits) → k < 128 → j < 128 → j ≢ k → bit_in j (with_bit k b p) ≡ bit_in j p
with_bit_other k j b p l m ne =
    put_in_other (k / 64) (k % 64) (j / 64) (j % 64) b p (low_bit k) (low_bit j) (omega (arith, l)) (omega (arith, m)) (λ e f. ne (same_place j k e f))
