-- A change of a pin passes a gate where no other pin has the controlling value.
use Rattle.std.proofs.Common.{◌≡◌, ℕ, zero, suc, ◌+◌, ◌-◌, ◌<◌, ◌≤◌, Bool, true, false, not, ◌&&◌, ◌||◌, List, [], ◌∷◌, map, drop, length, get_or, refl, sym, ◌∙◌, ap, subst, arith, bit_and, bit_or, bit_xor}
use Rattle.std.specs.List.{list_all}
use Rattle.std.proofs.lemmas.Bool.{both_ways}
use Rattle.std.proofs.lemmas.List.{drop_more, get_or-map, length-map}
use Rattle.statement.specs.declared.kinds.Kind.{Kind}
use Rattle.netlist.specs.Settled.{at}
use Rattle.events.specs.Words.{bit_of, ones}
use Rattle.events.proofs.WordBits.{bit_not_word, bit_of_and, bit_of_or}
use Rattle.regions.specs.Paths.{bits_at}
use Rattle.regions.specs.Sensitized.{sides, is_noncontrolling}
use Rattle.regions.specs.inner.Controlled.{one_controls, two_control, AreControlled}

-- ---- bits: p says that the first value doesn't control, q that the pin's own doesn't, s and t that one and two of the others do

first_bits : (p s t : Bool) → (t ≡ true → s ≡ true) → not s ≡ not (((not p && s) || t) || ((not p || s) && p))
first_bits true true true h = refl
first_bits true true false h = refl
first_bits true false true h = absurd (both_ways false refl (h refl))
first_bits true false false h = refl
first_bits false true true h = refl
first_bits false true false h = refl
first_bits false false true h = absurd (both_ways false refl (h refl))
first_bits false false false h = refl

later_bits : (p q s t : Bool) → (q ≡ false → s ≡ true) → (p && not (t || (s && q))) ≡ not (((not p && s) || t) || ((not p || s) && q))
later_bits true q s t h = refl
later_bits false true true t h = refl
later_bits false true false true h = refl
later_bits false true false false h = refl
later_bits false false true t h = refl
later_bits false false false t h = absurd (both_ways false refl (h refl))

one_bit : (p s t : Bool) → (t ≡ true → s ≡ true) → ((not p && s) || t) ≡ true → (not p || s) ≡ true
one_bit false s t h e = refl
one_bit true s t h e = h e

module _ (kind : Kind) where
  two_one : (vs : List Bool) → two_control kind vs ≡ true → one_controls kind vs ≡ true
  two_one [] e = e
  two_one (v ∷ vs) e = one_bit (is_noncontrolling kind v) (one_controls kind vs) (two_control kind vs) (two_one vs) e

  none_controls : (vs : List Bool) → list_all (is_noncontrolling kind) vs ≡ not (one_controls kind vs)
  none_controls [] = refl
  none_controls (v ∷ vs) = ap (λ b. is_noncontrolling kind v && b) (none_controls vs) ∙ apart (is_noncontrolling kind v) (one_controls kind vs) where
    apart : (p s : Bool) → (p && not s) ≡ not (not p || s)
    apart true s = refl
    apart false s = refl

  this_controls : (k : ℕ) (vs : List Bool) → k < length vs → is_noncontrolling kind (get_or vs k true) ≡ false → one_controls kind vs ≡ true
  this_controls k [] l e = absurd (omega (arith, l))
  this_controls zero (v ∷ vs) l e = ap (λ b. not b || one_controls kind vs) e
  this_controls (suc k) (v ∷ vs) l e = either (is_noncontrolling kind v) (one_controls kind vs) (this_controls k vs (let m : suc k < suc (length vs) = l in omega (arith, m)) e) where
    either : (p s : Bool) → s ≡ true → (not p || s) ≡ true
    either true s e = e
    either false s e = refl

  -- the other values don't control
  pub others : (k : ℕ) (vs : List Bool) → k < length vs
      → list_all (is_noncontrolling kind) (sides k vs) ≡ not (two_control kind vs || (one_controls kind vs && is_noncontrolling kind (get_or vs k true)))
  others k [] l = absurd (omega (arith, l))
  others zero (v ∷ vs) l = none_controls vs ∙ first_bits (is_noncontrolling kind v) (one_controls kind vs) (two_control kind vs) (two_one vs)
  others (suc k) (v ∷ vs) l =
      let m : k < length vs = (let e : suc k < suc (length vs) = l in omega (arith, e)) in
      ap (λ b. is_noncontrolling kind v && b) (others k vs m)
      ∙ later_bits (is_noncontrolling kind v) (is_noncontrolling kind (get_or vs k true)) (one_controls kind vs) (two_control kind vs) (this_controls k vs m)

-- ---- words

module _ (kind : Kind) (pins values : List ℕ) where
  -- with one pin more, whose word is not controlling in the patterns of `side`
  pub pin_more : (k one two side x : ℕ) → 0 < k → k ≤ length pins → x ≡ get_or pins (k - 1) x
      → ((j : ℕ) → j < 64 → bit_of j side ≡ is_noncontrolling kind (bit_of j (at values 0 x))) → AreControlled kind (drop k pins) values one two
      → AreControlled kind (drop (k - 1) pins) values (bit_or (bit_xor side ones) one) (bit_or (bit_and (bit_xor side ones) one) two)
  pin_more k one two side x some most is s h =
      let next : (k - 1) + 1 ≡ k = omega arith in
      let at_pin : drop (k - 1) pins ≡ x ∷ drop k pins = drop_more pins (k - 1) x (omega arith) ∙ (ap (λ y. y ∷ drop ((k - 1) + 1) pins) (sym is) ∙ ap (λ i. x ∷ drop i pins) next) in
      subst (λ ps. AreControlled kind ps values (bit_or (bit_xor side ones) one) (bit_or (bit_and (bit_xor side ones) one) two)) (sym at_pin) record {
        one_is = λ j low. bit_of_or (bit_xor side ones) one j
            ∙ (ap (λ b. b || bit_of j one) (controls j low) ∙ ap (λ b. not (is_noncontrolling kind (bits_at values j x)) || b) (h.one_is j low));
        two_is = λ j low. bit_of_or (bit_and (bit_xor side ones) one) two j
            ∙ (ap (λ b. b || bit_of j two) (bit_of_and (bit_xor side ones) one j)
            ∙ (ap (λ b. (b && bit_of j one) || bit_of j two) (controls j low)
            ∙ (ap (λ b. (not (is_noncontrolling kind (bits_at values j x)) && b) || bit_of j two) (h.one_is j low)
            ∙ ap (λ b. (not (is_noncontrolling kind (bits_at values j x)) && one_controls kind (map (bits_at values j) (drop k pins))) || b) (h.two_is j low))));
      } where
        controls : (j : ℕ) → j < 64 → bit_of j (bit_xor side ones) ≡ not (is_noncontrolling kind (bits_at values j x))
        controls j low = bit_not_word j low side ∙ ap not (s j low)

  -- where the other pins don't control
  pub passes_are : (place one two side value : ℕ) → place < length pins → value ≡ at values 0 (get_or pins place 0)
      → ((j : ℕ) → j < 64 → bit_of j side ≡ is_noncontrolling kind (bit_of j value)) → AreControlled kind pins values one two
      → (j : ℕ) → j < 64 → bit_of j (bit_xor (bit_or two (bit_and one side)) ones) ≡ list_all (is_noncontrolling kind) (sides place (map (bits_at values j) pins))
  passes_are place one two side value l is s h j low =
      let vs = map (bits_at values j) pins in
      let m : place < length vs = subst (λ k. place < k) (sym (length-map pins (bits_at values j))) l in
      let own : get_or vs place true ≡ bit_of j value = get_or-map (bits_at values j) pins place 0 true l ∙ ap (bit_of j) (sym is) in
      bit_not_word j low (bit_or two (bit_and one side))
      ∙ (ap not (bit_of_or two (bit_and one side) j
      ∙ (ap (λ b. bit_of j two || b) (bit_of_and one side j)
      ∙ (ap (λ b. b || (bit_of j one && bit_of j side)) (h.two_is j low)
      ∙ (ap (λ b. two_control kind vs || (b && bit_of j side)) (h.one_is j low)
      ∙ ap (λ b. two_control kind vs || (one_controls kind vs && b)) (s j low ∙ ap (is_noncontrolling kind) (sym own))))))
      ∙ sym (others kind place vs m))
