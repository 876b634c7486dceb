-- Three levels of words, and the marks that they stand for.
use Rattle.std.proofs.Common.{◌≡◌, ℕ, zero, suc, ◌+◌, ◌/◌, ◌<◌, ◌≤◌, ◌||◌, ◌&&◌, not, true, false, List, length, get_or, set, replicate, refl, sym, ◌∙◌, ap, subst, inl, inr, eqb, arith, zero-add}
use Rattle.std.proofs.lemmas.Bool.{cases_eq, cases_lt, both_ways, eqb-true, eq-eqb, ne_eqb, or_right, or_cases, not-true, not_from_false, false_from_ne_true}
use Rattle.std.proofs.lemmas.List.{length-set, get_or-set_same, get_or-set_other, get_or_past, ext_get_or, get_or-replicate, length-replicate}
use Rattle.events.specs.Agendas.{IsFirst, AreClear}
use Rattle.events.specs.inner.Bitmaps.{has_bit, bits_from, IsPut, IsTakenOut, IsLeastIn, IsFirstWord, IsSummary, AreLevels}
use Rattle.events.proofs.Bits.{word_some, no_bit, or_false, and_true, and_not_true}

pub bits_length : (words : List ℕ) (q count : ℕ) → length (bits_from words q count) ≡ count
bits_length words q zero = refl
bits_length words q (suc count) = ap suc (bits_length words (suc q) count)

bits_at : (words : List ℕ) (q count k : ℕ) → k < count → get_or (bits_from words q count) k false ≡ has_bit words (q + k)
bits_at words q zero k l = absurd (omega arith)
bits_at words q (suc count) zero l = ap (has_bit words) (let e : q ≡ q + 0 = omega arith in e)
bits_at words q (suc count) (suc k) l = bits_at words (suc q) count k (omega arith) ∙ ap (has_bit words) (let e : suc q + k ≡ q + suc k = omega arith in e)

pub mark_at : (words : List ℕ) (bound k : ℕ) → k < bound → get_or (bits_from words 0 bound) k false ≡ has_bit words k
mark_at words bound k l = bits_at words 0 bound k l ∙ ap (has_bit words) (zero-add k)

-- no bit stands behind the bound
pub mark_is : (words : List ℕ) (bound : ℕ) → ((q : ℕ) → has_bit words q ≡ true → q < bound) → (k : ℕ) → get_or (bits_from words 0 bound) k false ≡ has_bit words k
mark_is words bound within k = elim (cases_lt k bound) [
  | inl l ↦ mark_at words bound k l
  | inr past ↦
      let n = bits_length words 0 bound in
      get_or_past (bits_from words 0 bound) k false (omega arith) ∙ sym (false_from_ne_true (has_bit words k) (λ h. let l = within k h in omega arith))
]

pub put_marks : (words new : List ℕ) (bound p : ℕ) → p < bound → IsPut words new p → bits_from new 0 bound ≡ set (bits_from words 0 bound) p true
put_marks words new bound p l h =
    let n = bits_length words 0 bound in
    ext_get_or false (bits_from new 0 bound) (set (bits_from words 0 bound) p true)
    (bits_length new 0 bound ∙ sym (length-set (bits_from words 0 bound) p true ∙ n))
    (λ k k<. let m = bits_length new 0 bound in
    elim (cases_eq k p) [
      | inl e ↦
          mark_at new bound k (omega arith) ∙ (h.has k ∙ (or_right (has_bit words k) (eqb k p) (eq-eqb k p e)
          ∙ sym (ap (λ j. get_or (set (bits_from words 0 bound) p true) j false) e ∙ get_or-set_same (bits_from words 0 bound) p true false (omega arith))))
      | inr ne ↦
          mark_at new bound k (omega arith) ∙ (h.has k ∙ (ap (λ b. has_bit words k || b) (ne_eqb k p ne) ∙ (or_false (has_bit words k)
          ∙ sym (get_or-set_other (bits_from words 0 bound) p k true false ne ∙ mark_at words bound k (omega arith)))))
    ])

pub taken_marks : (words new : List ℕ) (bound p : ℕ) → p < bound → IsTakenOut words new p → bits_from new 0 bound ≡ set (bits_from words 0 bound) p false
taken_marks words new bound p l h =
    let n = bits_length words 0 bound in
    ext_get_or false (bits_from new 0 bound) (set (bits_from words 0 bound) p false)
    (bits_length new 0 bound ∙ sym (length-set (bits_from words 0 bound) p false ∙ n))
    (λ k k<. let m = bits_length new 0 bound in
    elim (cases_eq k p) [
      | inl e ↦
          mark_at new bound k (omega arith) ∙ (h.has k ∙ (ap (λ b. has_bit words k && not b) (eq-eqb k p e) ∙ (and_not_true (has_bit words k)
          ∙ sym (ap (λ j. get_or (set (bits_from words 0 bound) p false) j false) e ∙ get_or-set_same (bits_from words 0 bound) p false false (omega arith)))))
      | inr ne ↦
          mark_at new bound k (omega arith) ∙ (h.has k ∙ (ap (λ b. has_bit words k && not b) (ne_eqb k p ne) ∙ (and_true (has_bit words k)
          ∙ sym (get_or-set_other (bits_from words 0 bound) p k false false ne ∙ mark_at words bound k (omega arith)))))
    ])

-- where a summary has a bit, the word isn't 0, and the other way round
pub up_some : (high low : List ℕ) → IsSummary high low → (w : ℕ) → has_bit high w ≡ true → 0 < get_or low w 0
up_some high low s w h = elim (cases_eq (get_or low w 0) 0) [
  | inl e ↦ absurd (both_ways (eqb (get_or low w 0) 0) (not-true (eqb (get_or low w 0) 0) (sym (s w) ∙ h)) (eq-eqb (get_or low w 0) 0 e))
  | inr ne ↦ omega arith
]

pub some_up : (high low : List ℕ) → IsSummary high low → (w : ℕ) → 0 < get_or low w 0 → has_bit high w ≡ true
some_up high low s w l = s w ∙ not_from_false (eqb (get_or low w 0) 0) (ne_eqb (get_or low w 0) 0 (λ e. omega arith))

pub some_within : (low : List ℕ) (w : ℕ) → 0 < get_or low w 0 → w < length low
some_within low w l = elim (cases_lt w (length low)) [
  | inl in' ↦ in'
  | inr past ↦ absurd (let e : get_or low w 0 ≡ 0 = get_or_past low w 0 past in omega arith)
]

summary_put : (high low high' low' : List ℕ) (p r : ℕ) → r ≡ p / 64 → IsSummary high low → IsPut low low' p → IsPut high high' r → IsSummary high' low'
summary_put high low high' low' p r e s h k w = elim (cases_eq w r) [
  | inl same ↦
      let l : 0 < get_or low' w 0 = subst (λ v. 0 < get_or low' v 0) (sym (same ∙ e)) h.word in
      k.has w ∙ (or_right (has_bit high w) (eqb w r) (eq-eqb w r same) ∙ sym (not_from_false (eqb (get_or low' w 0) 0) (ne_eqb (get_or low' w 0) 0 (λ z. omega arith))))
  | inr ne ↦
      k.has w ∙ (ap (λ b. has_bit high w || b) (ne_eqb w r ne) ∙ (or_false (has_bit high w) ∙ (s w ∙ ap (λ v. not (eqb v 0)) (sym (h.others w (λ z. ne (z ∙ sym e)))))))
]

pub levels_put : (bound : ℕ) (f m c f' m' c' : List ℕ) (p : ℕ) → p < bound → AreLevels bound f m c → IsPut f f' p → IsPut m m' (p / 64) → IsPut c c' (p / 4096) → AreLevels bound f' m' c'
levels_put bound f m c f' m' c' p l h a b d = record {
  small = h.small;
  fine_size = a.size ∙ h.fine_size;
  middle_size = b.size ∙ h.middle_size;
  coarse_size = d.size ∙ h.coarse_size;
  within = λ q e. elim (or_cases (has_bit f q) (eqb q p) (sym (a.has q) ∙ e)) [
    | inl was ↦ h.within q was
    | inr is ↦ let s = eqb-true q p is in omega arith
  ];
  middle_is = summary_put m f m' f' p (p / 64) refl h.middle_is a b;
  coarse_is = summary_put c m c' m' (p / 64) (p / 4096) (omega arith) h.coarse_is b d;
}

-- the least bit of the first word
least_of_first : (words : List ℕ) (first place : ℕ) → IsFirstWord words first → IsLeastIn words first place → (q : ℕ) → has_bit words q ≡ true → place ≤ q
least_of_first words first place f l q h = elim (cases_lt (q / 64) first) [
  | inl low ↦ absurd (let s = word_some words q h in let z : get_or words (q / 64) 0 ≡ 0 = f.before (q / 64) low in omega arith)
  | inr high ↦ elim (cases_eq (q / 64) first) [
    | inl e ↦ l.least q e h
    | inr ne ↦ let p : place / 64 ≡ first = l.here in omega arith
  ]
]

-- the least bit of the word that the least bit of the summary tells
least_below : (high low : List ℕ) (w place : ℕ) → IsSummary high low → ((q : ℕ) → has_bit high q ≡ true → w ≤ q) → IsLeastIn low w place
    → (q : ℕ) → has_bit low q ≡ true → place ≤ q
least_below high low w place s least l q h =
    let up = least (q / 64) (some_up high low s (q / 64) (word_some low q h)) in
    elim (cases_eq (q / 64) w) [
      | inl e ↦ l.least q e h
      | inr ne ↦ let p : place / 64 ≡ w = l.here in omega arith
    ]

pub first_is : (bound : ℕ) (f m c : List ℕ) (first high word place : ℕ) → AreLevels bound f m c
    → IsFirstWord c first → IsLeastIn c first high → IsLeastIn m high word → IsLeastIn f word place → IsFirst (bits_from f 0 bound) place
first_is bound f m c first high word place h a b d e =
    let least = least_below m f word place h.middle_is (least_below c m high word h.coarse_is (least_of_first c first high a b) d) e in
    let n = bits_length f 0 bound in
    let in' = h.within place e.has in
    record {
      within = omega arith;
      here = mark_is f bound h.within place ∙ e.has;
      before = λ q l. mark_is f bound h.within q ∙ false_from_ne_true (has_bit f q) (λ y. let le = least q y in omega arith);
    }

pub clear_is : (bound : ℕ) (f m c : List ℕ) → AreLevels bound f m c → ((w : ℕ) → get_or c w 0 ≡ 0) → AreClear (bits_from f 0 bound)
clear_is bound f m c h none q = mark_is f bound h.within q ∙ false_from_ne_true (has_bit f q) (λ y.
    let one = some_up m f h.middle_is (q / 64) (word_some f q y) in
    let two = some_up c m h.coarse_is (q / 64 / 64) (word_some m (q / 64) one) in
    both_ways (has_bit c (q / 64 / 64)) (no_bit c none (q / 64 / 64)) two)

-- words that are all 0
pub zeros_at : (count : ℕ) (words : List ℕ) → words ≡ replicate count 0 → (w : ℕ) → get_or words w 0 ≡ 0
zeros_at count words e w = ap (λ (ws : List ℕ). get_or ws w 0) e ∙ elim (cases_lt w count) [
  | inl l ↦ get_or-replicate count w 0 0 l
  | inr past ↦ let n = length-replicate {A = ℕ} count 0 in get_or_past (replicate count 0) w 0 (omega arith)
]

none_up : (high low : List ℕ) → ((w : ℕ) → get_or high w 0 ≡ 0) → ((w : ℕ) → get_or low w 0 ≡ 0) → IsSummary high low
none_up high low h l w = no_bit high h w ∙ ap (λ v. not (eqb v 0)) (sym (l w))

pub levels_none : (bound : ℕ) (f m c f' m' c' : List ℕ) → AreLevels bound f m c → f' ≡ replicate (length f) 0 → m' ≡ replicate (length m) 0 → c' ≡ replicate (length c) 0 → AreLevels bound f' m' c'
levels_none bound f m c f' m' c' h a b d =
    let none_f = zeros_at (length f) f' a in
    let none_m = zeros_at (length m) m' b in
    let none_c = zeros_at (length c) c' d in
    record {
      small = h.small;
      fine_size = ap length a ∙ (length-replicate (length f) 0 ∙ h.fine_size);
      middle_size = ap length b ∙ (length-replicate (length m) 0 ∙ h.middle_size);
      coarse_size = ap length d ∙ (length-replicate (length c) 0 ∙ h.coarse_size);
      within = λ q e. absurd (both_ways (has_bit f' q) (no_bit f' none_f q) e);
      middle_is = none_up m' f' none_m none_f;
      coarse_is = none_up c' m' none_c none_m;
    }
