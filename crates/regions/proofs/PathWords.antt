-- Words of the patterns under which paths are sensitized.
use Rattle.std.proofs.Common.{◌≡◌, ℕ, zero, suc, ◌+◌, ◌<◌, ◌≤◌, Bool, true, false, ◌&&◌, cond, List, [], ◌∷◌, ◌++◌, map, take, drop, length, get_or, set, refl, sym, ◌∙◌, ap, subst, inl, inr, arith, bit_and, bit_xor}
use Rattle.std.specs.List.{All, Contains, list_all}
use Rattle.std.proofs.lemmas.Bool.{cases_eq, not_from_false}
use Rattle.std.proofs.lemmas.List.{take-append-drop, take_more, map-append, length-map, length-take-le, get_or_default, length-set, get_or-set_same, get_or-set_other}
use Rattle.statement.specs.declared.kinds.Kind.{Kind}
use Rattle.statement.specs.declared.lines.Line.TheVariants.{Stem, Pin}
use Rattle.netlist.specs.Conditions.{IsSound}
use Rattle.netlist.specs.Lines.{IsLineOf}
use Rattle.netlist.proofs.Lists.{All-from_contains, filter_contains}
use Rattle.netlist.specs.Orders.{IsOrder}
use Rattle.netlist.proofs.Orders.{definition_high}
use Rattle.netlist.proofs.Placed.{same_definition, gate_defined, definition_below, signal_below}
use Rattle.regions.proofs.Changing.{pin_signal}
use Rattle.statement.specs.Netlists.{Definition, Netlist, is_cell, is_flip_flop, gates, signals}
use Rattle.netlist.specs.Netlist.{is_gate, IsGateAt}
use Rattle.netlist.specs.Settled.{at}
use Rattle.events.specs.Words.{bit_of, ones}
use Rattle.events.proofs.WordBits.{bit_none, bit_of_and, bit_of_xor, bit_ones}
use Rattle.regions.specs.Paths.{bits_at, HasOpenPath, AreOpen, AreClosed, IsReadOnlyAt, IsReachOf}
use Rattle.regions.specs.Regions.{IsPath}
use Rattle.regions.specs.Sensitized.{sides, is_noncontrolling, lets_pass, is_sensitized, differ}

and_one : (b : Bool) → (b && true) ≡ b
and_one true = refl
and_one false = refl

and_apart : (x y z : Bool) → ((x && y) && z) ≡ (x && (y && z))
and_apart true y z = refl
and_apart false y z = refl

sides_none : (k : ℕ) → sides {V = Bool} k [] ≡ []
sides_none zero = refl
sides_none (suc k) = refl

all_push : {V : Type 0} (p : V → Bool) (vs : List V) (v : V) → list_all p (vs ++ v ∷ []) ≡ (list_all p vs && p v)
all_push p [] v = and_one (p v)
all_push p (u ∷ us) v = ap (λ b. p u && b) (all_push p us v) ∙ sym (and_apart (p u) (list_all p us) (p v))

-- one value more, at the place that is left out
sides_here : {V : Type 0} (p : V → Bool) (k : ℕ) (vs : List V) (v : V) → length vs ≡ k → list_all p (sides k (vs ++ v ∷ [])) ≡ list_all p (sides k vs)
sides_here p zero [] v e = refl
sides_here p (suc k) [] v e = absurd (omega (arith, e))
sides_here p zero (u ∷ us) v e = absurd (omega (arith, e))
sides_here p (suc k) (u ∷ us) v e = ap (λ b. p u && b) (sides_here p k us v (omega arith))

-- one value more, at another place
sides_there : {V : Type 0} (p : V → Bool) (k : ℕ) (vs : List V) (v : V) → (length vs ≡ k → ⊥) → list_all p (sides k (vs ++ v ∷ [])) ≡ (list_all p (sides k vs) && p v)
sides_there p zero [] v ne = absurd (ne refl)
sides_there p (suc k) [] v ne = and_one (p v)
sides_there p zero (u ∷ us) v ne = all_push p us v
sides_there p (suc k) (u ∷ us) v ne = ap (λ b. p u && b) (sides_there p k us v (λ e. ne (omega arith))) ∙ sym (and_apart (p u) (list_all p (sides k us)) (p v))

-- values that pass with more values pass without them
and_keeps : (a b c : Bool) → (b ≡ true → c ≡ true) → (a && b) ≡ true → (a && c) ≡ true
and_keeps true b c h e = h e
and_keeps false b c h e = e

all_first : {V : Type 0} (p : V → Bool) (us vs : List V) → list_all p (us ++ vs) ≡ true → list_all p us ≡ true
all_first p [] vs e = refl
all_first p (u ∷ us) vs e = and_keeps (p u) (list_all p (us ++ vs)) (list_all p us) (all_first p us vs) e

sides_first : {V : Type 0} (p : V → Bool) (k : ℕ) (us vs : List V) → list_all p (sides k (us ++ vs)) ≡ true → list_all p (sides k us) ≡ true
sides_first p zero [] vs e = refl
sides_first p (suc k) [] vs e = refl
sides_first p zero (u ∷ us) vs e = all_first p us vs e
sides_first p (suc k) (u ∷ us) vs e = and_keeps (p u) (list_all p (sides k (us ++ vs))) (list_all p (sides k us)) (sides_first p k us vs) e

and_stays : (a b c : Bool) → (c ≡ true → b ≡ true) → (a && b) ≡ false → (a && c) ≡ false
and_stays false b c h e = refl
and_stays true b true h e = sym (h refl) ∙ e
and_stays true b false h e = refl

-- of some patterns those under which the pins gone over so far pass
abbrev pub AreSides : Kind → List ℕ → ℕ → List ℕ → ℕ → ℕ → ℕ → Type 0
AreSides kind pins place values among k word =
    (j : ℕ) → j < 64 → bit_of j word ≡ (bit_of j among && list_all (is_noncontrolling kind) (sides place (map (bits_at values j) (take k pins))))

module _ (kind : Kind) (pins : List ℕ) (place : ℕ) (values : List ℕ) (among : ℕ) where
  pub sides_begin : AreSides kind pins place values among 0 among
  sides_begin j low = sym (ap (λ bs. bit_of j among && list_all (is_noncontrolling kind) bs) (sides_none place) ∙ and_one (bit_of j among))

  more : (k x j : ℕ) → k < length pins → x ≡ get_or pins k x → map (bits_at values j) (take (k + 1) pins) ≡ map (bits_at values j) (take k pins) ++ bits_at values j x ∷ []
  more k x j l is =
      ap (map (bits_at values j)) (take_more pins k x l ∙ ap (λ y. take k pins ++ y ∷ []) (sym is))
      ∙ map-append (bits_at values j) (take k pins) (x ∷ [])

  size : (k j : ℕ) → k < length pins → length (map (bits_at values j) (take k pins)) ≡ k
  size k j l = length-map (take k pins) (bits_at values j) ∙ length-take-le k pins (omega arith)

  pub sides_skip : (k word : ℕ) → k < length pins → k ≡ place → AreSides kind pins place values among k word → AreSides kind pins place values among (k + 1) word
  sides_skip k word l e h j low =
      let x = get_or pins k 0 in
      h j low ∙ sym (ap (λ bs. bit_of j among && list_all (is_noncontrolling kind) (sides place bs)) (more k x j l (get_or_default pins k 0 x l))
      ∙ ap (λ b. bit_of j among && b) (sides_here (is_noncontrolling kind) place (map (bits_at values j) (take k pins)) (bits_at values j x) (size k j l ∙ e)))

  pub sides_more : (k word side x value : ℕ) → k < length pins → (k ≡ place → ⊥) → x ≡ get_or pins k x → value ≡ at values 0 x
      → ((j : ℕ) → j < 64 → bit_of j side ≡ is_noncontrolling kind (bit_of j value)) → AreSides kind pins place values among k word
      → AreSides kind pins place values among (k + 1) (bit_and word side)
  sides_more k word side x value l ne is value_is s h j low =
      let passed = list_all (is_noncontrolling kind) (sides place (map (bits_at values j) (take k pins))) in
      bit_of_and word side j ∙ (ap (λ b. b && bit_of j side) (h j low)
      ∙ (ap (λ b. (bit_of j among && passed) && b) (s j low ∙ ap (λ v. is_noncontrolling kind (bit_of j v)) value_is)
      ∙ (and_apart (bit_of j among) passed (is_noncontrolling kind (bits_at values j x))
      ∙ sym (ap (λ bs. bit_of j among && list_all (is_noncontrolling kind) (sides place bs)) (more k x j l is)
      ∙ ap (λ b. bit_of j among && b) (sides_there (is_noncontrolling kind) place (map (bits_at values j) (take k pins)) (bits_at values j x) (λ e. ne (sym (size k j l) ∙ e)))))))

  -- where no pattern is left none comes back
  pub sides_end : (k word : ℕ) → word ≡ 0 → AreSides kind pins place values among k word
      → (j : ℕ) → j < 64 → bit_of j 0 ≡ (bit_of j among && list_all (is_noncontrolling kind) (sides place (map (bits_at values j) pins)))
  sides_end k word e h j low =
      let f = bits_at values j in
      let whole : map f (take k pins) ++ map f (drop k pins) ≡ map f pins = sym (map-append f (take k pins) (drop k pins)) ∙ ap (map f) (take-append-drop k pins) in
      let so_far : (bit_of j among && list_all (is_noncontrolling kind) (sides place (map f (take k pins)))) ≡ false = sym (h j low) ∙ (ap (bit_of j) e ∙ bit_none j low) in
      bit_none j low ∙ sym (and_stays (bit_of j among) (list_all (is_noncontrolling kind) (sides place (map f (take k pins)))) (list_all (is_noncontrolling kind) (sides place (map f pins)))
      (λ t. sides_first (is_noncontrolling kind) place (map f (take k pins)) (map f (drop k pins)) (ap (λ bs. list_all (is_noncontrolling kind) (sides place bs)) whole ∙ t))
      so_far)

-- ---- paths

module _ (n : Netlist) (values : List ℕ) where
  pub closed : (x : ℕ) → x < length (signals n) → HasOpenPath n values x x ones
  closed x l = record { path = []; leads = refl; within = l; word_is = bit_ones }

  pub opened : (x z k h word passes : ℕ) → (r : IsReadOnlyAt n x z k) → HasOpenPath n values z h word
      → ((j : ℕ) → j < 64 → bit_of j passes ≡ lets_pass (bits_at values j) r.pin) → HasOpenPath n values x h (bit_and word passes)
  opened x z k h word passes r o s = record {
    path = r.pin ∷ o.path;
    leads = (r.only, subst (λ y. IsPath n y o.path h) (sym r.id) o.leads);
    within = o.within;
    word_is = λ j low. bit_of_and word passes j ∙ (ap (λ b. b && bit_of j passes) (o.word_is j low)
        ∙ (ap (λ b. is_sensitized (bits_at values j) o.path && b) (s j low) ∙ swap (is_sensitized (bits_at values j) o.path) (lets_pass (bits_at values j) r.pin)));
  } where
    swap : (a b : Bool) → (a && b) ≡ (b && a)
    swap true true = refl
    swap true false = refl
    swap false true = refl
    swap false false = refl

  -- one signal's path is another
  pub open_set : (heads opens : List ℕ) (x h word : ℕ) → x < length (signals n) → AreOpen n values heads opens → HasOpenPath n values x h word
      → AreOpen n values (set heads x h) (set opens x word)
  open_set heads opens x h word l a o = record {
    heads_size = length-set heads x h ∙ a.heads_size;
    opens_size = length-set opens x word ∙ a.opens_size;
    each = λ y m. elim (cases_eq y x) [
      | inl e ↦
          let i : x < length heads = subst (λ k. x < k) (sym a.heads_size) l in
          let j : x < length opens = subst (λ k. x < k) (sym a.opens_size) l in
          subst (λ z. HasOpenPath n values z (get_or (set heads x h) z 0) (get_or (set opens x word) z 0)) (sym e)
          (subst (λ k. HasOpenPath n values x k (get_or (set opens x word) x 0)) (sym (get_or-set_same heads x h 0 i))
          (subst (λ w. HasOpenPath n values x h w) (sym (get_or-set_same opens x word 0 j)) o))
      | inr ne ↦
          subst (λ k. HasOpenPath n values y k (get_or (set opens x word) y 0)) (sym (get_or-set_other heads x y h 0 ne))
          (subst (λ w. HasOpenPath n values y (get_or heads y 0) w) (sym (get_or-set_other opens x y word 0 ne)) (a.each y m))
    ];
  }

pub closed_open : (n : Netlist) (values : List ℕ) (size : ℕ) (heads opens : List ℕ) → size ≡ length (signals n) → AreClosed size size heads opens → AreOpen n values heads opens
closed_open n values size heads opens e h = record {
  heads_size = h.heads_size ∙ e;
  opens_size = h.opens_size ∙ e;
  each = λ x l.
      let m : x < size = omega arith in
      subst (λ k. HasOpenPath n values x k (get_or opens x 0)) (sym (h.heads_are x m)) (subst (λ w. HasOpenPath n values x x w) (sym (h.opens_are x m)) (closed n values x l));
}

-- ---- what a fault reaches

bit_known : (j : ℕ) → j < 64 → (b : Bool) → bit_of j (cond b ones 0) ≡ b
bit_known j low true = bit_ones j low
bit_known j low false = bit_none j low

excited_is : (j : ℕ) → j < 64 → (v : ℕ) (b : Bool) → bit_of j (bit_xor v (cond b ones 0)) ≡ differ (bit_of j v) b
excited_is j low v b = bit_of_xor v (cond b ones 0) j ∙ ap (differ (bit_of j v)) (bit_known j low b)

module _ (n : Netlist) (values heads opens : List ℕ) (are : AreOpen n values heads opens) where
  pub reach_stem : (x : ℕ) (value : Bool) (excited : ℕ) → x < length (signals n) → excited ≡ bit_xor (at values 0 x) (cond value ones 0)
      → IsReachOf n values (Stem x) value (get_or heads x 0) (bit_and excited (get_or opens x 0))
  reach_stem x value excited l e =
      let o = are.each x l in
      record {
        path = o.path;
        leads = o.leads;
        within = o.within;
        word_is = λ j low. bit_of_and excited (get_or opens x 0) j
            ∙ (ap (λ b. b && bit_of j (get_or opens x 0)) (ap (bit_of j) e ∙ excited_is j low (at values 0 x) value)
            ∙ ap (λ b. differ (bit_of j (at values 0 x)) value && b) (o.word_is j low));
      }

  reordered : (d o l : Bool) → ((d && o) && l) ≡ (d && (l && o))
  reordered false o l = refl
  reordered true true true = refl
  reordered true true false = refl
  reordered true false true = refl
  reordered true false false = refl

  pub reach_pin : (d : Definition) (z k : ℕ) (value : Bool) (excited word : ℕ) → Contains (gates n) d → d.id ≡ z → z < length (signals n) → k < length d.pins
      → excited ≡ bit_xor (at values 0 (get_or d.pins k 0)) (cond value ones 0)
      → ((j : ℕ) → j < 64 → bit_of j word ≡ (bit_of j (bit_and excited (get_or opens z 0)) && list_all (is_noncontrolling d.kind) (sides k (map (bits_at values j) d.pins))))
      → IsReachOf n values (Pin z k) value (get_or heads z 0) word
  reach_pin d z k value excited word g id l within e s =
      let o = are.each z l in
      let open' = get_or opens z 0 in
      record {
        path = record { gate = d; place = k } ∷ o.path;
        leads = (record { gate = g; id = id; place = refl; within = within }, o.leads);
        within = o.within;
        word_is = λ j low.
            let passes = list_all (is_noncontrolling d.kind) (sides k (map (bits_at values j) d.pins)) in
            s j low ∙ (ap (λ b. b && passes) (bit_of_and excited open' j)
            ∙ (ap (λ b. (b && bit_of j open') && passes) (ap (bit_of j) e ∙ excited_is j low (at values 0 (get_or d.pins k 0)) value)
            ∙ (reordered (differ (bit_of j (at values 0 (get_or d.pins k 0))) value) (bit_of j open') passes
            ∙ ap (λ b. differ (bit_of j (at values 0 (get_or d.pins k 0))) value && (passes && b)) (o.word_is j low))));
      }

-- ---- what is read lies within

module _ (n : Netlist) (sound : IsSound n) where
  pub signal_low : (x : ℕ) → Contains (signals n) x → x < length (signals n)
  signal_low x c = signal_below n sound.formed.numbered x c

  pub pins_low : (values : List ℕ) → length values ≡ length (signals n) → (d : Definition) → Contains n.definitions d → All (λ x. x < length values) d.pins
  pins_low values size d c = All-from_contains (λ x. x < length values) d.pins (λ x m. subst (λ k. x < k) (sym size) (signal_low x (pin_signal n sound d c x m)))

  pub pin_low : (values : List ℕ) → length values ≡ length (signals n) → (d : Definition) → Contains n.definitions d → (k x : ℕ) → k < length d.pins → x ≡ get_or d.pins k x
      → x < length values
  pin_low values size d c k x l is = subst (λ y. y < length values) (sym is) (pins_low values size d c k x l)

  pub gate_low : (x : ℕ) → IsGateAt n x → (length n.inputs ≤ x) × (x < length (signals n))
  gate_low x w =
      let c = gate_defined n sound.formed.numbered w.0 w.1 in (
        subst (λ y. length n.inputs ≤ y) w.2 (definition_high n sound.formed.numbered w.0 c),
        subst (λ y. y < length (signals n)) w.2 (definition_below n sound.formed.numbered w.0 c),
      )

  pub reader_low : (x z k : ℕ) → IsReadOnlyAt n x z k → (length n.inputs ≤ z) × (z < length (signals n))
  reader_low x z k r =
      let c = gate_defined n sound.formed.numbered r.pin.gate r.only.gate in (
        subst (λ y. length n.inputs ≤ y) r.id (definition_high n sound.formed.numbered r.pin.gate c),
        subst (λ y. y < length (signals n)) r.id (definition_below n sound.formed.numbered r.pin.gate c),
      )

  -- a signal's path goes on from the gate
  pub opened_by : (values heads opens : List ℕ) (x z k word passes : ℕ) (d : Definition) → AreOpen n values heads opens → x < length (signals n) → IsReadOnlyAt n x z k
      → Contains n.definitions d → d.id ≡ z → word ≡ get_or opens z 0
      → ((j : ℕ) → j < 64 → bit_of j passes ≡ list_all (is_noncontrolling d.kind) (sides k (map (bits_at values j) d.pins)))
      → (h : ℕ) → h ≡ get_or heads z 0 → AreOpen n values (set heads x h) (set opens x (bit_and word passes))
  opened_by values heads opens x z k word passes d a l r c id e s h f =
      let low = reader_low x z k r in
      let same : d ≡ r.pin.gate = same_definition n sound.formed.numbered d r.pin.gate c (gate_defined n sound.formed.numbered r.pin.gate r.only.gate) (id ∙ sym r.id) in
      open_set n values heads opens x h (bit_and word passes) l a
      (opened n values x z k h word passes r
      (subst (λ y. HasOpenPath n values z y word) (sym f) (subst (λ w. HasOpenPath n values z (get_or heads z 0) w) (sym e) (a.each z low.1)))
      (λ j m. s j m ∙ (ap (λ (g : Definition). list_all (is_noncontrolling g.kind) (sides k (map (bits_at values j) g.pins))) same
      ∙ ap (λ i. list_all (is_noncontrolling r.pin.gate.kind) (sides i (map (bits_at values j) r.pin.gate.pins))) (sym r.place))))

  -- the line of a pin tells of its definition
  pub line_low : (z k : ℕ) → IsLineOf n (Pin z k) → (length n.inputs ≤ z) × (z < length (signals n))
  line_low z k l = (
    subst (λ y. length n.inputs ≤ y) l.2 (definition_high n sound.formed.numbered l.0 l.1),
    subst (λ y. y < length (signals n)) l.2 (definition_below n sound.formed.numbered l.0 l.1),
  )

  pub line_within : (z k : ℕ) → IsLineOf n (Pin z k) → (d : Definition) → Contains n.definitions d → d.id ≡ z → k < length d.pins
  line_within z k l d c e = subst (λ (g : Definition). k < length g.pins) (same_definition n sound.formed.numbered l.0 d l.1 c (l.2 ∙ sym e)) l.3

  pub gate_is : (d : Definition) → Contains n.definitions d → is_flip_flop d.kind ≡ false → Contains (gates n) d
  gate_is d c e = filter_contains is_gate n.definitions d c (not_from_false (is_cell d) e)

-- an element that is read
pub read_here : (xs : List ℕ) (i z v : ℕ) → i ≡ z → z < length xs → v ≡ get_or xs i v → v ≡ get_or xs z 0
read_here xs i z v e l is = is ∙ (ap (λ k. get_or xs k v) e ∙ get_or_default xs z v 0 l)

-- ---- the gates gone over

module _ (n m : Netlist) (sound : IsSound m) (same : m ≡ n) where
  pub order_gate : (order : List ℕ) (k x : ℕ) → IsOrder n order → k < length order → x ≡ get_or order k x → IsGateAt m x
  order_gate order k x o l is = subst (λ (s : Netlist). IsGateAt s x) (sym same) (subst (IsGateAt n) (sym is) (o.members k x l))
