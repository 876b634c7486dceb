-- Detection, told by words.
use Rattle.std.proofs.Common.{◌≡◌, ℕ, zero, suc, ◌<◌, ◌≤◌, ◌≢◌, not, Bool, true, false, cond, List, [], ◌∷◌, map, length, get_or, Option, Some, None, refl, sym, ◌∙◌, ap, subst, inl, inr, arith}
use Rattle.std.specs.Bool.{beq}
use Rattle.std.specs.List.{slice_get}
use Rattle.std.proofs.lemmas.Bool.{both_ways, lt-ltb, ltb-true}
use Rattle.std.specs.Option.{option_map}
use Rattle.std.proofs.lemmas.Option.{slice_get-get_or}
use Rattle.statement.specs.declared.lines.Fault.{Fault}
use Rattle.statement.specs.declared.lines.Point.{Point}
use Rattle.netlist.specs.Conditions.{IsSound}
use Rattle.statement.specs.Patterns.{Detects, observed, Pattern, IsDetectedAt, IsBefore}
use Rattle.statement.specs.Netlists.{Netlist}
use Rattle.statement.specs.Values.{Settles, bits}
use Rattle.netlist.proofs.Alike.{settles_once}
use Rattle.netlist.proofs.Lists.{decides_beq}
use Rattle.events.specs.Words.{bit_of, words}
use Rattle.events.proofs.WordBits.{words_as_bits, bit_line}
use Rattle.word_sim.specs.Hits.{LastDetected, LastMarked}
use Rattle.word_sim.specs.inner.Packed.{IsMarked, IsUsed}
use Rattle.observed_points.specs.Points.{points, point_of}
use Rattle.word_sim.specs.inner.Differences.{AreDifferences}
use Rattle.observed_points.proofs.ObservedPoints.{line_in, signal_in, observed_in, point_in, signal_within}
use Rattle.word_sim.proofs.PointOrder.{before_in}

none_some : {X : Type 0} (x : X) → ◌≡◌ {A = Option X} None (Some x) → ⊥
none_some x e = cc

-- two bits that aren't the same
abbrev pub differ : Bool → Bool → Bool
differ a b = cond a (not b) b

differ_other : (a b : Bool) → differ a b ≡ true → a ≢ b
differ_other true true h e = both_ways false refl h
differ_other true false h e = both_ways true e refl
differ_other false true h e = both_ways false refl e
differ_other false false h e = both_ways false refl h

other_differ : (a b : Bool) → a ≢ b → differ a b ≡ true
other_differ true true h = absurd (h refl)
other_differ true false h = refl
other_differ false true h = refl
other_differ false false h = absurd (h refl)

other_some : (a b : Bool) → a ≢ b → Some a ≢ Some b
other_some a b h e = h (cc)

module _ (n : Netlist) (sound : IsSound n) (f : Fault) (good faulty : ℕ → ℕ) where
  -- bit j of the words at a point differs with the fault
  abbrev pub differs : ℕ → ℕ → Bool
  differs c j = differ (bit_of j (good (signal_in n sound c))) (bit_of j ((words (Some f)).line (line_in n sound c) (faulty (signal_in n sound c))))

  module _ (inputs state : List ℕ) (good_settles : Settles (words None) n inputs state good) (faulty_settles : Settles (words (Some f)) n inputs state faulty)
      (j : ℕ) (low : j < 64) (p : Pattern) (inputs_are : map (bit_of j) inputs ≡ p.inputs) (state_are : map (bit_of j) state ≡ p.cells) where
    good_bits : Settles (bits None) n p.inputs p.cells (λ x. bit_of j (good x))
    good_bits = subst (λ (s : List Bool). Settles (bits None) n p.inputs s (λ x. bit_of j (good x))) state_are
        (subst (λ (i : List Bool). Settles (bits None) n i (map (bit_of j) state) (λ x. bit_of j (good x))) inputs_are (words_as_bits j low None n inputs state good good_settles))

    faulty_bits : Settles (bits (Some f)) n p.inputs p.cells (λ x. bit_of j (faulty x))
    faulty_bits = subst (λ (s : List Bool). Settles (bits (Some f)) n p.inputs s (λ x. bit_of j (faulty x))) state_are
        (subst (λ (i : List Bool). Settles (bits (Some f)) n i (map (bit_of j) state) (λ x. bit_of j (faulty x))) inputs_are (words_as_bits j low (Some f) n inputs state faulty faulty_settles))

    -- the bit at a point with the fault
    line_bit : (c : ℕ) → bit_of j ((words (Some f)).line (line_in n sound c) (faulty (signal_in n sound c))) ≡ (bits (Some f)).line (line_in n sound c) (bit_of j (faulty (signal_in n sound c)))
    line_bit c = bit_line j low (Some f) (line_in n sound c) (faulty (signal_in n sound c))

    pub differs_detects : (c : ℕ) → c < length (points n) → differs c j ≡ true → Detects n f p.inputs p.cells (point_of n c)
    differs_detects c l h = record {
      good = λ x. bit_of j (good x);
      faulty = λ x. bit_of j (faulty x);
      good_settles = good_bits;
      faulty_settles = faulty_bits;
      differs = λ e.
          other_some (bit_of j (good (signal_in n sound c))) (bit_of j ((words (Some f)).line (line_in n sound c) (faulty (signal_in n sound c))))
          (differ_other (bit_of j (good (signal_in n sound c))) (bit_of j ((words (Some f)).line (line_in n sound c) (faulty (signal_in n sound c)))) h)
          (sym (observed_in n sound (bits None) (λ x. bit_of j (good x)) c l) ∙ (e ∙ (observed_in n sound (bits (Some f)) (λ x. bit_of j (faulty x)) c l ∙ ap Some (sym (line_bit c)))));
    }

    pub detects_differs : (q : Point) → Detects n f p.inputs p.cells q → (c : ℕ) × (c < length (points n)) × (q ≡ point_of n c) × (differs c j ≡ true)
    detects_differs q t = elim (point_in n sound q) [
      | inr none ↦ absurd (t.differs (none (bits None) t.good ∙ sym (none (bits (Some f)) t.faulty)))
      | inl w ↦
          let c = w.0 in
          let l : w.0 < length (points n) = w.1 in
          let x = signal_in n sound w.0 in
          let inside = signal_within n sound w.0 w.1 in
          let g : t.good x ≡ bit_of j (good x) = settles_once beq decides_beq (bits None) n p.inputs p.cells t.good (λ y. bit_of j (good y)) sound.closed sound.acyclic t.good_settles good_bits x inside in
          let h : t.faulty x ≡ bit_of j (faulty x) =
          settles_once beq decides_beq (bits (Some f)) n p.inputs p.cells t.faulty (λ y. bit_of j (faulty y)) sound.closed sound.acyclic t.faulty_settles faulty_bits x inside in (
            w.0,
            w.1,
            w.2,
            other_differ (bit_of j (good x)) (bit_of j ((words (Some f)).line (line_in n sound w.0) (faulty x))) (λ e.
                t.differs (ap (observed (bits None) n t.good) w.2 ∙ (observed_in n sound (bits None) t.good w.0 w.1 ∙ (ap Some g ∙ (ap Some (e ∙ (line_bit w.0 ∙ ap ((bits (Some f)).line (line_in n sound w.0)) (sym h)))
                ∙ sym (ap (observed (bits (Some f)) n t.faulty) w.2 ∙ observed_in n sound (bits (Some f)) t.faulty w.0 w.1)))))),
          )
    ]

-- a place at which something stands
pub some_below : {X : Type 0} (xs : List X) (j : ℕ) (x : X) → slice_get xs j ≡ Some x → j < length xs
some_below [] zero x e = absurd (none_some x e)
some_below [] (suc j) x e = absurd (none_some x e)
some_below (y ∷ ys) zero x e = omega arith
some_below (y ∷ ys) (suc j) x e = let l = some_below ys j x e in omega arith

-- any pattern, where a default is asked for
no_pattern : Pattern
no_pattern = record { inputs = []; cells = [] }

-- where words differ, and where a list of patterns detects the fault last
module _ (n : Netlist) (sound : IsSound n) (f : Fault) (good faulty : ℕ → ℕ) (inputs state : List ℕ) (good_settles : Settles (words None) n inputs state good)
    (faulty_settles : Settles (words (Some f)) n inputs state faulty) (patterns : List Pattern) (few : length patterns ≤ 64)
    (inputs_are : (j : ℕ) (p : Pattern) → slice_get patterns j ≡ Some p → map (bit_of j) inputs ≡ p.inputs) (state_are : (j : ℕ) (p : Pattern) → slice_get patterns j ≡ Some p → map (bit_of j) state ≡ p.cells)
    (used : ℕ) (is_used : (j : ℕ) → j < 64 → bit_of j used ≡ true → j < length patterns) where
  within : (j : ℕ) (p : Pattern) → slice_get patterns j ≡ Some p → j < length patterns
  within j p e = some_below patterns j p e

  detected_differs : (j : ℕ) (q : Point) → IsDetectedAt n patterns f j q → (j < length patterns) × ((c : ℕ) × (c < length (points n)) × (q ≡ point_of n c) × (differs n sound f good faulty c j ≡ true))
  detected_differs j q h =
      let l = within j h.pattern h.at in
      (l, detects_differs n sound f good faulty inputs state good_settles faulty_settles j (omega arith) h.pattern (inputs_are j h.pattern h.at) (state_are j h.pattern h.at) q h.detects)

  pub last_marked : (found : Option (ℕ × ℕ)) → AreDifferences (length (points n)) (differs n sound f good faulty) used found → LastMarked n patterns used f (option_map (λ (w : ℕ × ℕ). (w.0, point_of n w.1)) found)
  last_marked None h = λ j q marked t.
      let w = detected_differs j q t in
      let l = w.0 in
      both_ways (differs n sound f good faulty w.1.0 j) (h.none refl j w.1.0 (omega arith) marked w.1.1) w.1.3
  last_marked (Some w) h =
      let j = w.0 in
      let c = w.1 in
      let s = h.some w.0 w.1 refl in
      let inside : w.0 < length patterns = is_used w.0 s.0 s.1 in
      let p = get_or patterns w.0 no_pattern in
      let at_p : slice_get patterns w.0 ≡ Some p = slice_get-get_or patterns w.0 no_pattern inside in
      record {
        here = record {
          pattern = p;
          at = at_p;
          detects = differs_detects n sound f good faulty inputs state good_settles faulty_settles w.0 s.0 p (inputs_are w.0 p at_p) (state_are w.0 p at_p) w.1 s.2 s.3;
        };
        marked = s.1;
        last = λ i q later marked t.
            let d = detected_differs i q t in
            let l = d.0 in
            both_ways (differs n sound f good faulty d.1.0 i) (s.5 i d.1.0 later (omega arith) marked d.1.1) d.1.3;
        first = λ q before t.
            let d = detected_differs w.0 q t in
            both_ways (differs n sound f good faulty d.1.0 w.0) (s.4 d.1.0 (before_in n sound d.1.0 w.1 (subst (λ r. IsBefore r (point_of n w.1)) d.1.2 before))) d.1.3;
      }

-- where each pattern is marked
pub used_marked : (m used : ℕ) → IsUsed m used → IsMarked m used
used_marked m used is j l e = ltb-true j m (sym (is j l) ∙ e)

pub marked_all : (n : Netlist) (patterns : List Pattern) (f : Fault) (used : ℕ) → length patterns ≤ 64 → IsUsed (length patterns) used
    → (found : Option (ℕ × Point)) → LastMarked n patterns used f found → LastDetected n patterns f found
marked_all n patterns f used few is None h = λ j q t.
    let l = some_below patterns j t.pattern t.at in
    h j q (is j (omega arith) ∙ lt-ltb j (length patterns) l) t
marked_all n patterns f used few is (Some w) h = record {
  here = h.here;
  last = λ j q later t.
      let l = some_below patterns j t.pattern t.at in
      h.last j q later (is j (omega arith) ∙ lt-ltb j (length patterns) l) t;
  first = h.first;
}
