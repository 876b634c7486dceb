-- Patterns told one by one.
use Rattle.std.proofs.Common.{◌≡◌, ◌≢◌, ℕ, ◌+◌, ◌*◌, ◌%◌, ◌^◌, ◌<◌, ◌≤◌, Bool, true, false, List, length, Option, Some, None, refl, sym, ◌∙◌, ap, subst, inl, inr, arith}
use Rattle.std.specs.Prelude.{◌↔◌, is_some}
use Rattle.std.specs.Int.{bit_at, w64}
use Rattle.std.specs.Option.{option_map}
use Rattle.std.proofs.lemmas.Bool.{both_ways, cases_eq, eq-eqb, ne_eqb}
use Rattle.std.proofs.lemmas.Nat.Bits.{bit_at_or, bit_at_set_same, bit_at_set_other, bit_at-zero}
use Rattle.statement.specs.declared.lines.Fault.{Fault}
use Rattle.statement.specs.declared.lines.Point.{Point}
use Rattle.statement.specs.Netlists.{Netlist}
use Rattle.statement.specs.Patterns.{Pattern, IsDetectedAt}
use Rattle.events.specs.Words.{bit_of}
use Rattle.events.proofs.WordBits.{bit_none}
use Rattle.word_sim.specs.Hits.{LastMarked}
use Rattle.detections.specs.Times.{IsDetectedBy}
use Rattle.detections.specs.inner.Telling.{TellsFirst, TellsPatterns}

-- the word of one pattern
pub one_bit : (j : ℕ) → j < 64 → bit_of j (1 * 2 ^ j % 2 ^ 64) ≡ true
one_bit j l =
    let o = bit_at_or 0 (1 * 2 ^ j % 2 ^ 64) j in
    let z = bit_at-zero j in
    let s = bit_at_set_same w64 0 j l in
    eq-eqb (bit_at (1 * 2 ^ j % 2 ^ 64) j) 1 (omega arith)

pub no_other_bit : (j i : ℕ) → j < 64 → bit_of i (1 * 2 ^ j % 2 ^ 64) ≡ true → i ≡ j
no_other_bit j i l b = elim (cases_eq i j) [
  | inl e ↦ e
  | inr ne ↦
      let o = bit_at_or 0 (1 * 2 ^ j % 2 ^ 64) i in
      let z = bit_at-zero i in
      let s = bit_at_set_other w64 0 j l i ne in
      absurd (both_ways (bit_of i (1 * 2 ^ j % 2 ^ 64)) (ne_eqb (bit_at (1 * 2 ^ j % 2 ^ 64) i) 1 (λ e. omega arith)) b)
]

-- whether the one pattern that is marked detects the fault
pub one_told : (n : Netlist) (patterns : List Pattern) (f : Fault) (j marks : ℕ) (found : Option (ℕ × ℕ)) (point : ℕ × ℕ → ℕ × Point)
    → bit_of j marks ≡ true → ((i : ℕ) → bit_of i marks ≡ true → i ≡ j)
    → LastMarked n patterns marks f (option_map point found) → (is_some found ≡ true) ↔ IsDetectedBy n patterns f j
one_told n patterns f j marks None point here only h = ((λ e. absurd (both_ways false refl e)), (λ d. absurd (h j d.0 here d.1)))
one_told n patterns f j marks (Some w) point here only h =
    ((λ e. ((point w).1, subst (λ i. IsDetectedAt n patterns f i (point w).1) (only (point w).0 h.marked) h.here)), (λ d. refl))

module _ (n : Netlist) (patterns : List Pattern) (f : Fault) where
  pub first_none : TellsFirst n patterns f 0 0
  first_none = record { first = λ j l. absurd (omega arith); others = λ j l low. bit_none j low }

  pub first_more : (m word word' : ℕ) (bit : Bool) → TellsFirst n patterns f m word → m < 64 → (bit ≡ true) ↔ IsDetectedBy n patterns f m
      → (bit_of m word ≡ false → bit_of m word' ≡ bit) → ((i : ℕ) → i ≢ m → bit_of i word' ≡ bit_of i word) → TellsFirst n patterns f (m + 1) word'
  first_more m word word' bit h low told same others = record {
    first = λ j l. elim (cases_eq j m) [
      | inl e ↦
          let is : bit_of j word' ≡ bit = ap (λ i. bit_of i word') e ∙ same (h.others m (omega arith) low) in (
            λ b. subst (IsDetectedBy n patterns f) (sym e) (told.0 (sym is ∙ b)),
            λ d. is ∙ told.1 (subst (IsDetectedBy n patterns f) e d),
          )
      | inr ne ↦
          let t = h.first j (omega arith) in
          ((λ b. t.0 (sym (others j ne) ∙ b)), (λ d. others j ne ∙ t.1 d))
    ];
    others = λ j l low'. others j (λ e. omega arith) ∙ h.others j (omega arith) low';
  }

  pub first_all : (m word : ℕ) → length patterns ≤ m → TellsFirst n patterns f m word → TellsPatterns n patterns f word
  first_all m word l h = λ j k. h.first j (omega arith)
