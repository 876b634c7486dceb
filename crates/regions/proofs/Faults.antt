-- Faults of a region, told by the head of the region turned over.
use Rattle.std.proofs.Common.{◌≡◌, ◌≢◌, ℕ, zero, suc, ◌+◌, ◌<◌, ◌≤◌, Bool, true, false, ◌&&◌, cond, List, [], ◌∷◌, ◌++◌, map, length, get_or, Some, None, refl, sym, ◌∙◌, ap, subst, inl, inr, eqb, arith}
use Rattle.std.specs.Bool.{beq}
use Rattle.std.specs.List.{Contains, flat_map, slice_get}
use Rattle.std.proofs.lemmas.Bool.{cases_Bool, eq-eqb, ne_eqb}
use Rattle.std.proofs.lemmas.List.{length-map, get_or-map}
use Rattle.std.proofs.lemmas.List.Elements.{All-contains}
use Rattle.statement.specs.declared.lines.Line.{Line}
use Rattle.statement.specs.declared.lines.Line.TheVariants.{Stem, Pin, Out}
use Rattle.statement.specs.declared.lines.Fault.{Fault}
use Rattle.statement.specs.declared.lines.Point.{Point}
use Rattle.statement.specs.declared.lines.Point.TheVariants.{Output, Cell}
use Rattle.netlist.specs.Conditions.{IsSound}
use Rattle.statement.specs.Patterns.{Detects, observed}
use Rattle.statement.specs.Values.{gate_bit, Rule, Settles, bits, bit_table, is_line, on_pins, pins_of, outs, next}
use Rattle.netlist.specs.Gates.{allows_pins}
use Rattle.netlist.specs.Lines.{IsLineOf, signal_of}
use Rattle.statement.specs.Netlists.{Definition, Netlist, is_cell, cells, signals}
use Rattle.netlist.proofs.Lists.{All-from_contains, map_agree, decides_beq, contains_filter, contains_head, contains_tail}
use Rattle.netlist.proofs.Alike.{settles_once}
use Rattle.netlist.proofs.Placed.{gate_defined}
use Rattle.netlist.proofs.SomeSettled.{some_settled}
use Rattle.events.specs.Stuck.{is_at}
use Rattle.regions.specs.Turned.{turned, turned_bits}
use Rattle.events.specs.Waiting.{AgreeAt}
use Rattle.events.proofs.Sources.{stuck_changes}
use Rattle.events.proofs.Steps.{cell_no_gate, rule_changes, none_waits}
use Rattle.regions.specs.Regions.{GatePin, IsPath, IsLinePath, IsRegionHead, EntersBy}
use Rattle.regions.specs.Sensitized.{lets_pass, is_sensitized, differ, reaches}
use Rattle.regions.proofs.Alike.{driven_or_made, made_other}
use Rattle.regions.proofs.Gates.{turned_at, gate_turned}
use Rattle.regions.proofs.Changing.{AgreesOff, turned_off, free_pins, turned_pins, zip_length, and_apart, and_one, Avoids, head_avoids, gate_signal, pin_signal, end_avoids, made_good, pins_before, passes, beyond, same_change}
use Rattle.regions.proofs.Ranks.{AreRanks, ranks}
use Rattle.regions.proofs.OnlyReaders.{no_output, no_other_gate}

-- ---- a path from a signal that alone changes

module _ (n : Netlist) (sound : IsSound n) (rank : ℕ → ℕ) (above : AreRanks n rank) (inputs state : List Bool) (a : ℕ → Bool) (good : Settles (bits None) n inputs state a) where
  -- the signal that is turned over
  turned_here : (h : ℕ) (t : Bool) (c : ℕ → Bool) → Settles (turned_bits h t) n inputs state c → Contains (signals n) h → c h ≡ turned t (a h)
  turned_here h t c q m =
      let line : (v : Bool) → (turned_bits h t).line (Stem h) v ≡ turned t v = λ v. ap (λ b. cond b (turned t v) v) (eq-eqb h h refl) in
      elim (driven_or_made (bits None) (turned_bits h t) n inputs state a c good q h m) [
        | inl d ↦ d.other ∙ (line d.value ∙ ap (turned t) (sym d.one))
        | inr w ↦
            let g : Definition = w.0 in
            let same : map a g.pins ≡ map c g.pins = map_agree a c g.pins (All-from_contains (λ y. a y ≡ c y) g.pins
            (pins_before n sound rank above inputs state a good (turned_bits h t) h (turned_off n h t) c q g w.1 w.2)) in
            subst (λ x. c x ≡ turned t (a x)) w.2
            (made_other (bits None) (turned_bits h t) n inputs state a c good q g w.1
            ∙ (subst (λ x. (turned_bits h t).line (Stem x) (gate_bit g.kind (on_pins (turned_bits h t) g.id 0 (map c g.pins))) ≡ turned t (gate_bit g.kind (on_pins (turned_bits h t) g.id 0 (map c g.pins)))) (sym w.2)
            (line (gate_bit g.kind (on_pins (turned_bits h t) g.id 0 (map c g.pins))))
            ∙ ap (turned t) (ap (gate_bit g.kind) (turned_pins h g.id 0 t (map c g.pins) ∙ sym same) ∙ sym (made_good n sound rank above inputs state a good g w.1))))
      ]

  -- what alone changes one signal, gives to all that the path doesn't leave what the end of the path gives them, turned over where the path is sensitized
  through : (path : List GatePin) (s h : ℕ) (t : Bool) (rule : Rule Bool) → AgreesOff n rule s → (b : ℕ → Bool) → Settles rule n inputs state b → b s ≡ turned t (a s)
      → Contains (signals n) s → IsPath n s path h → (c : ℕ → Bool) → Settles (turned_bits h (t && is_sensitized a path)) n inputs state c
      → (y : ℕ) → Contains (signals n) y → Avoids s path y → b y ≡ c y
  through [] s h t rule off b settles differs m e c q y k avoids =
      let q' : Settles (turned_bits s t) n inputs state c =
      subst (λ x. Settles (turned_bits x t) n inputs state c) (sym e) (subst (λ u. Settles (turned_bits h u) n inputs state c) (and_one t) q) in
      same_change n sound rank above inputs state a good rule s off b settles (turned_bits s t) (turned_off n s t) c q' (differs ∙ sym (turned_here s t c q' m)) y k
  through (p ∷ path) s h t rule off b settles differs m w c q y k avoids =
      let u : Bool = t && lets_pass a p in
      let z = p.gate.id in
      let at : Contains (signals n) z = gate_signal n sound p.gate w.0.gate in
      let some = some_settled false (turned_bits z u) n inputs state sound.formed.numbered sound.closed sound.acyclic
      (zip_length (λ x v. a x ≡ (bits None).line (Stem x) v) n.inputs inputs good.0)
      (zip_length (λ (d : Definition) v. a d.id ≡ (bits None).line (Stem d.id) v) (cells n) state good.1) in
      let there = turned_here z u some.0 some.1 at in
      beyond n sound rank above inputs state a good rule s off b settles p w.0 (turned_bits z u) (turned_off n z u) some.0 some.1
      (passes n sound rank above inputs state a good rule s off b settles p w.0 t differs ∙ sym there) y k avoids.0
      ∙ through path z h u (turned_bits z u) (turned_off n z u) some.0 some.1 there at w.1 c
      (subst (λ v. Settles (turned_bits h v) n inputs state c) (sym (and_apart t (lets_pass a p) (is_sensitized a path))) q) y k avoids.1

-- ---- a stuck line

turned_differ : (v value : Bool) → value ≡ turned (differ v value) v
turned_differ true true = refl
turned_differ true false = refl
turned_differ false true = refl
turned_differ false false = refl

and_false : (b : Bool) → (b && false) ≡ false
and_false true = refl
and_false false = refl

parts_agree : {X Y : Type 0} (f g : X → List Y) (xs : List X) → ((x : X) → Contains xs x → f x ≡ g x) → flat_map f xs ≡ flat_map g xs
parts_agree f g [] h = refl
parts_agree f g (x ∷ xs) h = ap (λ r. r ++ flat_map f xs) (h x (contains_head x xs)) ∙ ap (λ r. g x ++ r) (parts_agree f g xs (λ y c. h y (contains_tail x y xs c)))

left_as : (here v : Bool) → v ≡ cond here (turned false v) v
left_as true v = refl
left_as false v = refl

abbrev fault : Line → Bool → Fault
fault line value = record { line = line; value = value }

-- no pin of the definition is stuck
unstuck_pins : (line : Line) (value : Bool) (x j : ℕ) (vs : List Bool) → ((i : ℕ) → j ≤ i → is_line line (Pin x i) ≡ false) → on_pins (bits (Some (fault line value))) x j vs ≡ vs
unstuck_pins line value x j [] none = refl
unstuck_pins line value x j (v ∷ vs) none =
    ap (λ w. w ∷ on_pins (bits (Some (fault line value))) x (j + 1) vs) (ap (λ b. cond b value v) (none j (omega arith)))
    ∙ ap (λ ws. v ∷ ws) (unstuck_pins line value x (j + 1) vs (λ i l. none i (omega arith)))

no_pin : (z k x j : ℕ) → k ≢ j → is_line (Pin z k) (Pin x j) ≡ false
no_pin z k x j ne = ap (λ b. eqb z x && b) (ne_eqb k j ne) ∙ and_false (eqb z x)

-- the pin at place i is stuck
stuck_pin : (z k : ℕ) (value : Bool) (x j i : ℕ) (vs : List Bool) → z ≡ x → k ≡ j + i → i < length vs
    → on_pins (bits (Some (fault (Pin z k) value))) x j vs ≡ turned_at i (differ (get_or vs i false) value) vs
stuck_pin z k value x j i [] e f l = absurd (omega (arith, l))
stuck_pin z k value x j zero (v ∷ vs) e f l =
    let here : is_line (Pin z k) (Pin x j) ≡ true = ap (λ b. b && eqb k j) (eq-eqb z x e) ∙ eq-eqb k j (omega arith) in
    ap (λ w. w ∷ on_pins (bits (Some (fault (Pin z k) value))) x (j + 1) vs) (ap (λ b. cond b value v) here ∙ turned_differ v value)
    ∙ ap (λ ws. turned (differ v value) v ∷ ws) (unstuck_pins (Pin z k) value x (j + 1) vs (λ i l. no_pin z k x i (λ s. omega arith)))
stuck_pin z k value x j (suc i) (v ∷ vs) e f l =
    ap (λ w. w ∷ on_pins (bits (Some (fault (Pin z k) value))) x (j + 1) vs) (ap (λ b. cond b value v) (no_pin z k x j (λ s. omega arith)))
    ∙ ap (λ ws. v ∷ ws) (stuck_pin z k value x (j + 1) i vs e (omega arith) (omega arith))

-- the signal is none of those that the path of a line leaves
abbrev line_avoids : Line → List GatePin → ℕ → Type 0
line_avoids (Stem s) path y = Avoids s path y
line_avoids (Pin z k) [] y = ⊥
line_avoids (Pin z k) (p ∷ path) y = Avoids z path y
line_avoids (Out x) path y = ⊥

module _ (n : Netlist) (sound : IsSound n) where
  -- where the path of a line begins
  line_signal : (line : Line) (path : List GatePin) (h : ℕ) → IsLinePath n line path h → IsLineOf n line → Contains (signals n) (signal_of line)
  line_signal (Stem s) path h w l = l
  line_signal (Pin z k) [] h w l = absurd w
  line_signal (Pin z k) (p ∷ path) h w l = subst (λ x. Contains (signals n) x) w.0.id (gate_signal n sound p.gate w.0.gate)
  line_signal (Out x) path h w l = absurd w

  path_end : (s : ℕ) (path : List GatePin) (h : ℕ) → IsPath n s path h → Contains (signals n) s → Contains (signals n) h
  path_end s [] h e m = subst (λ x. Contains (signals n) x) e m
  path_end s (p ∷ path) h w m = path_end p.gate.id path h w.1 (gate_signal n sound p.gate w.0.gate)

  line_path_end : (line : Line) (path : List GatePin) (h : ℕ) → IsLinePath n line path h → IsLineOf n line → Contains (signals n) h
  line_path_end (Stem s) path h w l = path_end s path h w l
  line_path_end (Pin z k) [] h w l = absurd w
  line_path_end (Pin z k) (p ∷ path) h w l = path_end z path h w.1 (subst (λ x. Contains (signals n) x) w.0.id (gate_signal n sound p.gate w.0.gate))
  line_path_end (Out x) path h w l = absurd w

  -- a line that no output and no cell has
  line_unobserved : (line : Line) (path : List GatePin) (h : ℕ) → IsLinePath n line path h → ((x : ℕ) → is_line line (Out x) ≡ false)
      × ((d : Definition) → Contains (cells n) d → (i : ℕ) → is_line line (Pin d.id i) ≡ false)
  line_unobserved (Stem s) path h w = ((λ x. refl), (λ d c i. refl))
  line_unobserved (Pin z k) [] h w = absurd w
  line_unobserved (Pin z k) (p ∷ path) h w = (
    (λ x. refl),
    (λ d c i. ap (λ b. b && eqb k i)
        (ne_eqb z d.id (λ e. cell_no_gate n sound.formed.numbered d p.gate c w.0.gate (sym e ∙ sym w.0.id)))),
  )
  line_unobserved (Out x) path h w = absurd w

  line_head : (line : Line) (path : List GatePin) (h y : ℕ) → IsLinePath n line path h → IsRegionHead n y → line_avoids line path y
  line_head (Stem s) path h y w head = head_avoids n s path h y w head
  line_head (Pin z k) [] h y w head = absurd w
  line_head (Pin z k) (p ∷ path) h y w head = head_avoids n z path h y w.1 head
  line_head (Out x) path h y w head = absurd w

  line_end : (rank : ℕ → ℕ) → AreRanks n rank → (line : Line) (path : List GatePin) (h : ℕ) → IsLinePath n line path h → line_avoids line path h
  line_end rank above (Stem s) path h w = end_avoids n sound rank above s path h w
  line_end rank above (Pin z k) [] h w = absurd w
  line_end rank above (Pin z k) (p ∷ path) h w = end_avoids n sound rank above z path h w.1
  line_end rank above (Out x) path h w = absurd w

  -- what an output or a cell reads is the head of its region
  output_head : (y : ℕ) → Contains n.outputs y → IsRegionHead n y
  output_head y c p only = no_output n sound.formed.numbered y p only c

  cell_head : (d : Definition) → Contains (cells n) d → (y : ℕ) → Contains d.pins y → IsRegionHead n y
  cell_head d c y m p only =
      cell_no_gate n sound.formed.numbered d p.gate c only.gate (no_other_gate n sound.formed.numbered y p only d (contains_filter is_cell n.definitions d c).0 m)

  -- two rules that leave the observed lines alone, and assignments that agree on the heads of regions
  same_observed : (rule rule' : Rule Bool) (b c : ℕ → Bool) → ((x : ℕ) (v : Bool) → rule.line (Out x) v ≡ rule'.line (Out x) v)
      → ((d : Definition) → Contains (cells n) d → (vs : List Bool) → on_pins rule d.id 0 vs ≡ on_pins rule' d.id 0 vs)
      → ((y : ℕ) → Contains (signals n) y → IsRegionHead n y → b y ≡ c y) → (point : Point) → observed rule n b point ≡ observed rule' n c point
  same_observed rule rule' b c at_out at_cell agree =
      let outs_are : outs rule n b ≡ outs rule' n c = map_agree (λ x. rule.line (Out x) (b x)) (λ x. rule'.line (Out x) (c x)) n.outputs
      (All-from_contains (λ x. rule.line (Out x) (b x) ≡ rule'.line (Out x) (c x)) n.outputs (λ x m.
      at_out x (b x) ∙ ap (rule'.line (Out x)) (agree x (All-contains (Contains (signals n)) n.outputs x sound.closed.outputs m) (output_head x m)))) in
      let next_is : next rule n b ≡ next rule' n c = parts_agree (pins_of rule b) (pins_of rule' c) (cells n) (λ d m.
      at_cell d m (map b d.pins) ∙ ap (on_pins rule' d.id 0) (map_agree b c d.pins (All-from_contains (λ y. b y ≡ c y) d.pins (λ y k.
      agree y (pin_signal n sound d (contains_filter is_cell n.definitions d m).0 y k) (cell_head d m y k))))) in
      elim [
        | Output k ↦ ap (λ vs. slice_get vs k) outs_are
        | Cell k ↦ ap (λ vs. slice_get vs k) next_is
      ]

  stuck_off : (line : Line) (value : Bool) (s : ℕ) → ((x : ℕ) → x ≢ s → is_at line x ≡ false) → AgreesOff n (bits (Some (fault line value))) s
  stuck_off line value s none x ne = (stuck_changes bit_table (fault line value) x (none x ne) n).0

  module _ (rank : ℕ → ℕ) (above : AreRanks n rank) (inputs state : List Bool) (a : ℕ → Bool) (good : Settles (bits None) n inputs state a) where
    -- a stuck stem has its value
    stem_stuck : (s : ℕ) (value : Bool) (b : ℕ → Bool) → Settles (bits (Some (fault (Stem s) value))) n inputs state b → Contains (signals n) s → b s ≡ value
    stem_stuck s value b settles m =
        let rule = bits (Some (fault (Stem s) value)) in
        let line : (v : Bool) → rule.line (Stem s) v ≡ value = λ v. ap (λ c. cond c value v) (eq-eqb s s refl) in
        elim (driven_or_made (bits None) rule n inputs state a b good settles s m) [
          | inl d ↦ d.other ∙ line d.value
          | inr w ↦
              let g : Definition = w.0 in
              subst (λ x. b x ≡ value) w.2 (made_other (bits None) rule n inputs state a b good settles g w.1
              ∙ subst (λ x. rule.line (Stem x) (rule.gate g (pins_of rule b g)) ≡ value) (sym w.2) (line (rule.gate g (pins_of rule b g))))
        ]

    -- a gate with a stuck pin
    pin_stuck : (z k : ℕ) (value : Bool) (p : GatePin) → EntersBy n z k p → (b : ℕ → Bool) → Settles (bits (Some (fault (Pin z k) value))) n inputs state b
        → b z ≡ turned (differ (a (get_or p.gate.pins k 0)) value && lets_pass a p) (a z)
    pin_stuck z k value p enters b settles =
        let g = p.gate in
        let rule = bits (Some (fault (Pin z k) value)) in
        let vs : List Bool = map a g.pins in
        let t : Bool = differ (a (get_or g.pins k 0)) value in
        let size = length-map g.pins a in
        let l : k < length vs = subst (λ m. k < m) (sym size) enters.within in
        let off : AgreesOff n rule z = stuck_off (Pin z k) value z (λ x ne. ne_eqb z x (λ e. ne (sym e))) in
        let same : map b g.pins ≡ vs = sym (map_agree a b g.pins (All-from_contains (λ y. a y ≡ b y) g.pins
        (pins_before n sound rank above inputs state a good rule z off b settles g enters.gate enters.id))) in
        let value_is : get_or vs k false ≡ a (get_or g.pins k 0) = get_or-map a g.pins k 0 false enters.within in
        let read : on_pins rule g.id 0 (map b g.pins) ≡ turned_at k t vs =
        ap (on_pins rule g.id 0) same ∙ (stuck_pin z k value g.id 0 k vs (sym enters.id) (omega arith) l ∙ ap (λ v. turned_at k (differ v value) vs) value_is) in
        let allowed = All-contains (λ (d : Definition). allows_pins d.kind (length d.pins) ≡ true) n.definitions g sound.closed.allowed (gate_defined n sound.formed.numbered g enters.gate) in
        let made : b g.id ≡ turned (t && lets_pass a p) (a g.id) =
        made_other (bits None) rule n inputs state a b good settles g enters.gate
        ∙ (ap (gate_bit g.kind) (read ∙ ap (λ j. turned_at j t vs) (sym enters.place))
        ∙ (gate_turned p.place t vs (subst (λ j. j < length vs) (sym enters.place) l) g.kind (subst (λ m. allows_pins g.kind m ≡ true) (sym size) allowed)
        ∙ ap (turned (t && lets_pass a p)) (sym (made_good n sound rank above inputs state a good g enters.gate)))) in
        subst (λ x. b x ≡ turned (t && lets_pass a p) (a x)) enters.id made

    -- with a fault, all that the path doesn't leave are as the end of the path turned over makes them
    by_line : (line : Line) (value : Bool) (path : List GatePin) (h : ℕ) → IsLinePath n line path h → Contains (signals n) (signal_of line)
        → (b c : ℕ → Bool) → Settles (bits (Some (fault line value))) n inputs state b → Settles (turned_bits h (reaches a (fault line value) path)) n inputs state c
        → (y : ℕ) → Contains (signals n) y → line_avoids line path y → b y ≡ c y
    by_line (Stem s) value path h w m b c settles q y k avoids =
        through n sound rank above inputs state a good path s h (differ (a s) value) (bits (Some (fault (Stem s) value)))
        (stuck_off (Stem s) value s (λ x ne. ne_eqb s x (λ e. ne (sym e)))) b settles
        (stem_stuck s value b settles m ∙ turned_differ (a s) value) m w c q y k avoids
    by_line (Pin z j) value [] h w m b c settles q y k avoids = absurd w
    by_line (Pin z j) value (p ∷ path) h w m b c settles q y k avoids =
        let t : Bool = differ (a (get_or p.gate.pins j 0)) value in
        through n sound rank above inputs state a good path z h (t && lets_pass a p) (bits (Some (fault (Pin z j) value)))
        (stuck_off (Pin z j) value z (λ x ne. ne_eqb z x (λ e. ne (sym e)))) b settles
        (pin_stuck z j value p w.0 b settles) m w.1 c (subst (λ v. Settles (turned_bits h v) n inputs state c) (sym (and_apart t (lets_pass a p) (is_sensitized a path))) q) y k avoids
    by_line (Out x) value path h w m b c settles q y k avoids = absurd w

left_agrees : (n : Netlist) (h x : ℕ) → AgreeAt (bits None) (turned_bits h false) n x
left_agrees n h x = record {
  stems = λ v. left_as (eqb h x) v;
  gates_do = λ d c e a. ap (gate_bit d.kind) (free_pins d.id 0 (map a d.pins) ∙ sym (turned_pins h d.id 0 false (map a d.pins)));
}

module _ (n : Netlist) (f : Fault) (path : List GatePin) (h : ℕ) (inputs state : List Bool) (a : ℕ → Bool) (sound : IsSound n) (line : IsLineOf n f.line) (w : IsLinePath n f.line path h)
    (good : Settles (bits None) n inputs state a) where
  -- all heads of regions are with the fault as the end of its path turned over makes them, and the end itself
  faulty_as : (b c : ℕ → Bool) → Settles (bits (Some f)) n inputs state b → Settles (turned_bits h (reaches a f path)) n inputs state c
      → (y : ℕ) → Contains (signals n) y → line_avoids f.line path y → b y ≡ c y
  faulty_as b c settles q =
      let r = ranks n sound in
      by_line n sound r.0 r.1 inputs state a good f.line f.value path h w (line_signal n sound f.line path h w line) b c settles q

  pub observed_by_head : (b c : ℕ → Bool) → Settles (bits (Some f)) n inputs state b → Settles (turned_bits h (reaches a f path)) n inputs state c
      → (point : Point) → observed (bits (Some f)) n b point ≡ observed (bits None) n c point
  observed_by_head b c settles q =
      let u = line_unobserved n sound f.line path h w in
      same_observed n sound (bits (Some f)) (bits None) b c (λ x v. ap (λ e. cond e f.value v) (u.0 x))
      (λ d m vs. unstuck_pins f.line f.value d.id 0 vs (λ i l. u.1 d m i) ∙ sym (free_pins d.id 0 vs))
      (λ y k head. faulty_as b c settles q y k (line_head n sound f.line path h y w head))

  some_turned : (t : Bool) → (c : ℕ → Bool) × Settles (turned_bits h t) n inputs state c
  some_turned t = some_settled false (turned_bits h t) n inputs state sound.formed.numbered sound.closed sound.acyclic
      (zip_length (λ x v. a x ≡ (bits None).line (Stem x) v) n.inputs inputs good.0)
      (zip_length (λ (d : Definition) v. a d.id ≡ (bits None).line (Stem d.id) v) (cells n) state good.1)

  pub reaches_head : (b : ℕ → Bool) → Settles (bits (Some f)) n inputs state b → b h ≡ turned (reaches a f path) (a h)
  reaches_head b settles =
      let r = ranks n sound in
      let m = line_path_end n sound f.line path h w line in
      let c = some_turned (reaches a f path) in
      faulty_as b c.0 settles c.1 h m (line_end n sound r.0 r.1 f.line path h w)
      ∙ turned_here n sound r.0 r.1 inputs state a good h (reaches a f path) c.0 c.1 m

  pub left_alone : Settles (turned_bits h false) n inputs state a
  left_alone = none_waits (turned_bits h false) n inputs state a (λ x. false) (λ x. refl)
      (rule_changes (bits None) (turned_bits h false) n inputs state a (λ x. false) (λ x e. left_agrees n h x) good)

  pub detected : (c : ℕ → Bool) → Settles (turned_bits h true) n inputs state c → (point : Point)
      → Detects n f inputs state point → (reaches a f path ≡ true) × (observed (bits None) n a point ≢ observed (bits None) n c point)
  detected c q point d =
      let same : observed (bits None) n d.good point ≡ observed (bits None) n a point =
      same_observed n sound (bits None) (bits None) d.good a (λ x v. refl) (λ e m vs. refl)
      (λ y k head. settles_once beq decides_beq (bits None) n inputs state d.good a sound.closed sound.acyclic d.good_settles good y k) point in
      elim (cases_Bool (reaches a f path)) [
        | inl so ↦ (
          so,
          λ e. d.differs (same ∙ (e
              ∙ sym (observed_by_head d.faulty c d.faulty_settles (subst (λ t. Settles (turned_bits h t) n inputs state c) (sym so) q) point))),
        )
        | inr fails ↦ absurd (d.differs (same
            ∙ sym (observed_by_head d.faulty a d.faulty_settles (subst (λ t. Settles (turned_bits h t) n inputs state a) (sym fails) left_alone) point)))
      ]

  pub detects : (c : ℕ → Bool) → Settles (turned_bits h true) n inputs state c → (point : Point)
      → reaches a f path ≡ true → observed (bits None) n a point ≢ observed (bits None) n c point → Detects n f inputs state point
  detects c q point so differs =
      let b = some_settled false (bits (Some f)) n inputs state sound.formed.numbered sound.closed sound.acyclic
      (zip_length (λ x v. a x ≡ (bits None).line (Stem x) v) n.inputs inputs good.0)
      (zip_length (λ (d : Definition) v. a d.id ≡ (bits None).line (Stem d.id) v) (cells n) state good.1) in
      record {
        good = a;
        faulty = b.0;
        good_settles = good;
        faulty_settles = b.1;
        differs = λ e. differs (e ∙ observed_by_head b.0 c b.1 (subst (λ t. Settles (turned_bits h t) n inputs state c) (sym so) q) point);
      }
