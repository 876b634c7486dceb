-- Bits put into words one by one.
use Rattle.std.proofs.Common.{◌≡◌, ℕ, ◌+◌, ◌*◌, ◌%◌, ◌^◌, ◌<◌, ◌≤◌, ◌≢◌, Bool, true, false, List, map, length, get_or, Some, sym, ◌∙◌, ap, inl, inr, eqb, arith, bit_or}
use Rattle.std.specs.Int.{bit_at, w64}
use Rattle.std.specs.List.{slice_get}
use Rattle.std.proofs.lemmas.Bool.{cases_eq, eq-eqb, ne_eqb}
use Rattle.std.proofs.lemmas.List.{length-map, get_or-map, ext_get_or}
use Rattle.std.proofs.lemmas.Nat.Bits.{bit_at_set_same, bit_at_set_other, bit_at-zero}
use Rattle.statement.specs.Patterns.{Pattern}
use Rattle.events.specs.Words.{bit_of}
use Rattle.word_sim.specs.declared.packing.Part.{Part}
use Rattle.word_sim.proofs.WordDetection.{some_below}
use Rattle.word_sim.specs.inner.Packed.{bits_in, IsColumn, ArePacked}

pub set_same : (word j : ℕ) → j < 64 → bit_of j (bit_or word (1 * 2 ^ j % 2 ^ 64)) ≡ true
set_same word j l = eq-eqb (bit_at (bit_or word (1 * 2 ^ j % 2 ^ 64)) j) 1 (bit_at_set_same w64 word j l)

pub set_other : (word j i : ℕ) → j < 64 → i ≢ j → bit_of i (bit_or word (1 * 2 ^ j % 2 ^ 64)) ≡ bit_of i word
set_other word j i l ne = ap (λ v. eqb v 1) (bit_at_set_other w64 word j l i ne)

no_bit : (j : ℕ) → bit_of j 0 ≡ false
no_bit j = ne_eqb (bit_at 0 j) 1 (λ o. let z = bit_at-zero j in omega arith)

-- ---- a column

pub column_more : (part : Part) (patterns : List Pattern) (k m word word' : ℕ) (bit : Bool) (p : Pattern) → IsColumn part patterns k m word → m < 64 → slice_get patterns m ≡ Some p
    → bit ≡ get_or (bits_in part p) k false → (bit_of m word ≡ false → bit_of m word' ≡ bit) → ((i : ℕ) → i ≢ m → bit_of i word' ≡ bit_of i word) → IsColumn part patterns k (m + 1) word'
column_more part patterns k m word word' bit p h low at is same others = record {
  here = λ j q l e. elim (cases_eq j m) [
    | inl last ↦
        let one : p ≡ q = some_same p q (sym at ∙ (ap (slice_get patterns) (sym last) ∙ e)) in
        ap (λ i. bit_of i word') last ∙ (same (h.others m (omega arith) low) ∙ (is ∙ ap (λ (r : Pattern). get_or (bits_in part r) k false) one))
    | inr old ↦ others j old ∙ h.here j q (omega arith) e
  ];
  others = λ j l l64. others j (λ e. omega arith) ∙ h.others j (omega arith) l64;
} where
  some_same : (a b : Pattern) → Some a ≡ Some b → a ≡ b
  some_same a b e = cc

-- ---- all columns

pub packed_all : (part : Part) (patterns : List Pattern) (width m : ℕ) (words : List ℕ) → length patterns ≤ 64 → length words ≡ m → m ≡ width
    → ((k : ℕ) → k < m → IsColumn part patterns k (length patterns) (get_or words k 0)) → ArePacked part patterns width words
packed_all part patterns width m words few size e h = record {
  size = size ∙ e;
  each = λ j p at wide.
      let inside = some_below patterns j p at in
      let mapped = length-map words (bit_of j) in
      ext_get_or false (map (bit_of j) words) (bits_in part p) (mapped ∙ (size ∙ (e ∙ sym wide)))
      (λ k l. get_or-map (bit_of j) words k 0 false (omega arith) ∙ (h k (omega arith)).here j p inside at);
}

-- ---- the bits below a count
