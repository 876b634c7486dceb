-- Joined faults behave alike, and so do equivalent ones.
use Rattle.std.proofs.Common.{◌≡◌, ◌≢◌, ℕ, suc, zero, ◌+◌, ◌<◌, ◌≤◌, ◌⊎◌, ◌&&◌, Bool, true, false, not, eqb, List, [], ◌∷◌, ◌++◌, map, length, refl, sym, ◌∙◌, ap, subst, Some, inl, inr, arith, length-append}
use Rattle.std.specs.Bool.{Decides}
use Rattle.std.specs.List.{All, AllZip, Contains, flat_map, slice_get}
use Rattle.std.proofs.lemmas.Bool.{both_ways, cases_Bool, cases_lt, eq-eqb, eqb-true, ne_eqb}
use Rattle.std.proofs.lemmas.List.{get_or_append_left, get_or_default, length-map}
use Rattle.std.proofs.lemmas.Option.{slice_get-get_or}
use Rattle.std.proofs.lemmas.List.Elements.{All-contains, Contains-append_cases}
use Rattle.statement.specs.declared.kinds.Kind.{Kind}
use Rattle.statement.specs.declared.kinds.Kind.TheVariants.{And, Nand, Or, Nor, Xor, Xnor, Not, Buff, Dff, Const0, Const1}
use Rattle.statement.specs.declared.lines.Line.{Line}
use Rattle.statement.specs.declared.lines.Line.TheVariants.{Stem, Pin, Out}
use Rattle.statement.specs.declared.lines.Fault.{Fault}
use Rattle.statement.specs.Netlists.{Definition, Netlist, is_cell, is_flip_flop, cells, gates, signals, readers_of}
use Rattle.netlist.specs.Netlist.{is_gate}
use Rattle.netlist.specs.Conditions.{IsSound}
use Rattle.netlist.specs.Gates.{allows_pins}
use Rattle.netlist.specs.Laws.{HoldsEverywhere, SettlesOnce, SomeSettles}
use Rattle.statement.specs.Values.{Rule, Settles, Table, is_line, next, on_pins, outs, pins_of, with_fault}
use Rattle.netlist.proofs.Lists.{All-from_contains, contains_cases, contains_filter, contains_head, contains_map, contains_nil, contains_tail, filter_contains, map_agree}
use Rattle.netlist.proofs.Placed.{definition_below, same_definition}
use Rattle.netlist.proofs.Settling.{above_inputs}
use Rattle.fault_universe.proofs.Elements.{contains_at}
use Rattle.fault_universe.proofs.Members.{read_signal}
use Rattle.fault_universe.proofs.Names.{is_signal}
use Rattle.fault_universe.proofs.Readers.{IsPinOf, output_reads, pin_reads}
use Rattle.fault_collapse.specs.Joined.{IsEquivalent, IsJoined, joined, output_value, reflexive, symmetric, transitive}
use Rattle.fault_collapse.specs.Laws.{Controls}
use Rattle.fault_collapse.proofs.Agreement.{AreApart, free, held, next_agree, outs_agree}
use Rattle.fault_collapse.proofs.Reading.{branch_at, only_one, stem_at, to_pin}

-- what a fault's settled assignment gives
pub record AgreeOn {V : Type 0} (table : Table V) (n : Netlist) (f g : Fault) (a b : ℕ → V) : Type 0 where
  pub outs : outs (with_fault table (Some f)) n a ≡ outs (with_fault table (Some g)) n b
  pub next : next (with_fault table (Some f)) n a ≡ next (with_fault table (Some g)) n b

-- a value at a pin
on_pin : {V : Type 0} (rule : Rule V) (z k i : ℕ) (vs : List V) (v : V) → slice_get vs i ≡ Some v → slice_get (on_pins rule z k vs) i ≡ Some (rule.line (Pin z (k + i)) v)
on_pin rule z k i [] v e = absurd (cc)
on_pin rule z k zero (u ∷ vs) v e =
    let same : u ≡ v = cc in
    let at : k ≡ k + zero = omega arith in
    ap (λ w. Some (rule.line (Pin z k) w)) same ∙ ap (λ j. Some (rule.line (Pin z j) v)) at
on_pin rule z k (suc i) (u ∷ vs) v e =
    let at : k + 1 + i ≡ k + suc i = omega arith in
    on_pin rule z (k + 1) i vs v e ∙ ap (λ j. Some (rule.line (Pin z j) v)) at

mapped_at : {V : Type 0} (a : ℕ → V) (xs : List ℕ) (i x : ℕ) → slice_get xs i ≡ Some x → slice_get (map a xs) i ≡ Some (a x)
mapped_at a [] i x e = absurd (cc)
mapped_at a (y ∷ ys) zero x e = let same : y ≡ x = cc in ap (λ z. Some (a z)) same
mapped_at a (y ∷ ys) (suc i) x e = mapped_at a ys i x e

pub pin_value : {V : Type 0} (rule : Rule V) (a : ℕ → V) (d : Definition) (k x : ℕ) → slice_get d.pins k ≡ Some x → slice_get (pins_of rule a d) k ≡ Some (rule.line (Pin d.id k) (a x))
pin_value rule a d k x e = let at : 0 + k ≡ k = omega arith in on_pin rule d.id 0 k (map a d.pins) (a x) (mapped_at a d.pins k x e) ∙ ap (λ j. Some (rule.line (Pin d.id j) (a x))) at

-- what is driven there
driven : {X V : Type 0} (R : X → V → Type 0) (xs : List X) (vs : List V) (x : X) → AllZip R xs vs → Contains xs x → (v : V) × R x v
driven R [] vs x h c = absurd (contains_nil x c)
driven R (y ∷ ys) [] x h c = absurd h
driven {X} {V} R (y ∷ ys) (v ∷ vs) x h c = elim (contains_cases y x ys c) [
  | inl e ↦ (v, subst (λ (z : X). R z v) e h.0)
  | inr r ↦ driven R ys vs x h.1 r
]

zip_length : {X V : Type 0} (R : X → V → Type 0) (xs : List X) (vs : List V) → AllZip R xs vs → length vs ≡ length xs
zip_length R [] [] h = refl
zip_length R [] (v ∷ vs) h = absurd h
zip_length R (x ∷ xs) [] h = absurd h
zip_length R (x ∷ xs) (v ∷ vs) h = ap suc (zip_length R xs vs h.1)

defined_kind : (d : Definition) (b : Bool) → is_cell d ≡ b → (is_cell d ≡ true) ⊎ (is_gate d ≡ true)
defined_kind d true e = inl e
defined_kind d false e = inr (ap not e)

module _ {V : Type 0} (table : Table V) (n : Netlist) (sound : IsSound n) (f : Fault) (inputs state : List V) (a : ℕ → V) (p : Settles (with_fault table (Some f)) n inputs state a) where
  -- a stuck stem has the stuck value
  pub stuck_stem : (x : ℕ) → Contains (signals n) x → f.line ≡ Stem x → a x ≡ table.known f.value
  stuck_stem x c is =
      let here : is_line f.line (Stem x) ≡ true = ap (λ l. is_line l (Stem x)) is ∙ eq-eqb x x refl in
      elim (Contains-append_cases n.inputs (map (λ (d : Definition). d.id) n.definitions) x c) [
        | inl i ↦ let v = driven (λ y v. a y ≡ (with_fault table (Some f)).line (Stem y) v) n.inputs inputs x p.0 i in v.1 ∙ held table.known f (Stem x) v.0 here
        | inr m ↦
            let d = contains_map (λ (d : Definition). d.id) n.definitions x m in
            let stuck : is_line f.line (Stem d.0.id) ≡ true = ap (λ y. is_line f.line (Stem y)) d.2 ∙ here in
            ap a (sym d.2) ∙ elim (defined_kind d.0 (is_cell d.0) refl) [
              | inl cell ↦
                  let v = driven (λ (e : Definition) v. a e.id ≡ (with_fault table (Some f)).line (Stem e.id) v) (cells n) state d.0 p.1 (filter_contains is_cell n.definitions d.0 d.1 cell) in
                  v.1 ∙ held table.known f (Stem d.0.id) v.0 stuck
              | inr gate ↦
                  All-contains (λ (e : Definition). a e.id ≡ (with_fault table (Some f)).line (Stem e.id) (table.gate e.kind (pins_of (with_fault table (Some f)) a e))) (gates n) d.0 p.2
                  (filter_contains is_gate n.definitions d.0 d.1 gate) ∙ held table.known f (Stem d.0.id) (table.gate d.0.kind (pins_of (with_fault table (Some f)) a d.0)) stuck
            ]
      ]

length-on_pins : {V : Type 0} (rule : Rule V) (z k : ℕ) (vs : List V) → length (on_pins rule z k vs) ≡ length vs
length-on_pins rule z k [] = refl
length-on_pins rule z k (v ∷ vs) = ap suc (length-on_pins rule z (k + 1) vs)

-- no kind of cell joins faults
gate_joins : (kind : Kind) (v w : Bool) → output_value kind v ≡ Some w → is_flip_flop kind ≡ true → ⊥
gate_joins And v w e c = both_ways false refl c
gate_joins Nand v w e c = both_ways false refl c
gate_joins Or v w e c = both_ways false refl c
gate_joins Nor v w e c = both_ways false refl c
gate_joins Xor v w e c = both_ways false refl c
gate_joins Xnor v w e c = both_ways false refl c
gate_joins Not v w e c = both_ways false refl c
gate_joins Buff v w e c = both_ways false refl c
gate_joins Dff v w e c = absurd (cc)
gate_joins Const0 v w e c = both_ways false refl c
gate_joins Const1 v w e c = both_ways false refl c

module _ (n : Netlist) (sound : IsSound n) (f g : Fault) (j : IsJoined n f g) where
  pin_of : IsPinOf n j.gate.id j.place j.signal
  pin_of = to_pin n j.gate j.place j.signal j.member j.pin

  no_cell : is_cell j.gate ≡ true → ⊥
  no_cell c = gate_joins j.gate.kind f.value g.value j.values c

  the_gate : Contains (gates n) j.gate
  the_gate = filter_contains is_gate n.definitions j.gate j.member (elim (cases_Bool (is_cell j.gate)) [
    | inl c ↦ absurd (no_cell c)
    | inr e ↦ ap not e
  ])

  -- a gate reads no pin of its own
  not_own : j.signal ≢ j.gate.id
  not_own same = sound.acyclic j.gate.id (
    (λ y. eqb y j.gate.id),
    (λ y e. (j.gate.id, (j.gate, the_gate, sym (eqb-true y j.gate.id e), subst (Contains j.gate.pins) same (contains_at j.gate.pins j.place j.signal j.pin)), eq-eqb j.gate.id j.gate.id refl)),
    eq-eqb j.gate.id j.gate.id refl,
  )

  away_inputs : (y : ℕ) → Contains n.inputs y → y ≢ j.gate.id
  away_inputs y c e =
      let low = above_inputs n sound.formed.numbered j.gate j.member in
      let within : c.0 < length n.inputs = c.1 in
      let all : c.0 < length (signals n) = omega (arith, length-append n.inputs (map (λ (d : Definition). d.id) n.definitions)) in
      let at : c.0 ≡ y =
      sym (sound.formed.numbered c.0 all) ∙ (get_or_append_left n.inputs (map (λ (d : Definition). d.id) n.definitions) 0 c.0 within ∙ (sym (get_or_default n.inputs c.0 y 0 within) ∙ c.2)) in
      omega arith

  away_cells : (d : Definition) → Contains (cells n) d → d.id ≢ j.gate.id
  away_cells d c e =
      let m = contains_filter is_cell n.definitions d c in
      let same : d ≡ j.gate = same_definition n sound.formed.numbered d j.gate m.0 j.member e in
      no_cell (ap is_cell (sym same) ∙ m.1)

  output_line : (l : Line) → is_line (Stem j.gate.id) l ≡ false → is_line g.line l ≡ false
  output_line l e = ap (λ m. is_line m l) j.output ∙ e

  -- the pin is a branch
  module _ (many : 2 ≤ length (readers_of n j.signal)) where
    branch : f.line ≡ Pin j.gate.id j.place
    branch = j.input ∙ branch_at n j.signal j.gate.id j.place many

    input_branch : (l : Line) → is_line (Pin j.gate.id j.place) l ≡ false → is_line f.line l ≡ false
    input_branch l e = ap (λ m. is_line m l) branch ∙ e

    pub branch_apart : AreApart n f g j.gate.id (λ _. false)
    branch_apart = record {
      stems = λ y ne h. (input_branch (Stem y) refl, output_line (Stem y) (ne_eqb j.gate.id y (λ e. ne (sym e))));
      pins = λ d c ne k. (input_branch (Pin d.id k) (ap (λ b. b && eqb j.place k) (ne_eqb j.gate.id d.id (λ e. ne (sym e)))), output_line (Pin d.id k) refl);
      outs = λ y. (input_branch (Out y) refl, output_line (Out y) refl);
      unread = λ d c ne y m. refl;
      unseen = λ y c. refl;
      inputs = away_inputs;
      cells = away_cells;
    }

  -- the pin is a stem
  module _ (few : length (readers_of n j.signal) < 2) where
    stem : f.line ≡ Stem j.signal
    stem = j.input ∙ stem_at n j.signal j.gate.id j.place few

    input_stem : (l : Line) → is_line (Stem j.signal) l ≡ false → is_line f.line l ≡ false
    input_stem l e = ap (λ m. is_line m l) stem ∙ e

    sole : readers_of n j.signal ≡ Pin j.gate.id j.place ∷ []
    sole = only_one (readers_of n j.signal) (Pin j.gate.id j.place) (pin_reads n j.signal j.gate.id j.place pin_of) few

    sole_is : (l : Line) → Contains (readers_of n j.signal) l → Pin j.gate.id j.place ≡ l
    sole_is l c = elim (contains_cases (Pin j.gate.id j.place) l [] (subst (λ rs. Contains rs l) sole c)) [ inl e ↦ e | inr r ↦ absurd (contains_nil l r) ]

    pub stem_apart : AreApart n f g j.gate.id (λ y. eqb y j.signal)
    stem_apart = record {
      stems = λ y ne h. (input_stem (Stem y) (ne_eqb j.signal y (λ e. both_ways (eqb y j.signal) h (eq-eqb y j.signal (sym e)))), output_line (Stem y) (ne_eqb j.gate.id y (λ e. ne (sym e))));
      pins = λ d c ne k. (input_stem (Pin d.id k) refl, output_line (Pin d.id k) refl);
      outs = λ y. (input_stem (Out y) refl, output_line (Out y) refl);
      unread = λ d c ne y m. ne_eqb y j.signal
          (λ e.
          let at : slice_get d.pins m.0 ≡ Some y = slice_get-get_or d.pins m.0 y m.1 ∙ ap (λ w. Some w) m.2 in
          let pin : IsPinOf n d.id m.0 j.signal = to_pin n d m.0 j.signal c (at ∙ ap (λ w. Some w) e) in
          let same = sole_is (Pin d.id m.0) (pin_reads n j.signal d.id m.0 pin) in
          let id : j.gate.id ≡ d.id = cc in
          ne (sym id));
      unseen = λ y c. ne_eqb y j.signal
          (λ e. let same = sole_is (Out j.signal) (output_reads n j.signal (subst (Contains n.outputs) e c)) in absurd (cc));
      inputs = away_inputs;
      cells = away_cells;
    }

  module _ {V : Type 0} (same : V → V → Bool) (decides : (x y : V) → Decides (same x y) (x ≡ y)) (table : Table V) (controls : Controls table)
      (everywhere : HoldsEverywhere) (inputs state : List V) (a b : ℕ → V) (p : Settles (with_fault table (Some f)) n inputs state a) (q : Settles (with_fault table (Some g)) n inputs state b) where
    below : j.gate.id < length (signals n)
    below = definition_below n sound.formed.numbered j.gate j.member

    at_output : b j.gate.id ≡ table.known g.value
    at_output = stuck_stem table n sound g inputs state b q j.gate.id (is_signal n sound.formed.numbered j.gate.id below) j.output

    -- the gate's pin is at the stuck value, and so its output is at the other fault's
    at_gate : is_line f.line (Stem j.gate.id) ≡ false → (with_fault table (Some f)).line (Pin j.gate.id j.place) (a j.signal) ≡ table.known f.value → a j.gate.id ≡ b j.gate.id
    at_gate elsewhere pin =
        let settled = All-contains (λ (e : Definition). a e.id ≡ (with_fault table (Some f)).line (Stem e.id) (table.gate e.kind (pins_of (with_fault table (Some f)) a e))) (gates n) j.gate p.2 the_gate in
        let value : slice_get (pins_of (with_fault table (Some f)) a j.gate) j.place ≡ Some (table.known f.value) = pin_value (with_fault table (Some f)) a j.gate j.place j.signal j.pin ∙ ap (λ v. Some v) pin in
        let size : length (pins_of (with_fault table (Some f)) a j.gate) ≡ length j.gate.pins = length-on_pins (with_fault table (Some f)) j.gate.id 0 (map a j.gate.pins) ∙ length-map j.gate.pins a in
        let allowed = ap (allows_pins j.gate.kind) size ∙ All-contains (λ (d : Definition). allows_pins d.kind (length d.pins) ≡ true) n.definitions j.gate sound.closed.allowed j.member in
        settled ∙ (free table.known f (Stem j.gate.id) (table.gate j.gate.kind (pins_of (with_fault table (Some f)) a j.gate)) elsewhere
        ∙ (controls j.gate.kind f.value g.value (pins_of (with_fault table (Some f)) a j.gate) j.place j.values allowed value ∙ sym at_output))

    pub joined_agree : AgreeOn table n f g a b
    joined_agree = elim (cases_lt (length (readers_of n j.signal)) 2) [
      | inl few ↦
          let signal : Contains (signals n) j.signal = read_signal n sound j.gate.id j.place j.signal pin_of in
          let elsewhere = input_stem few (Stem j.gate.id) (ne_eqb j.signal j.gate.id not_own) in
          let pin = free table.known f (Pin j.gate.id j.place) (a j.signal) (input_stem few (Pin j.gate.id j.place) refl) ∙ stuck_stem table n sound f inputs state a p j.signal signal (stem few) in
          record {
            outs = outs_agree same decides table everywhere n sound f g j.gate.id (λ y. eqb y j.signal) (stem_apart few) inputs state a b p q (at_gate elsewhere pin);
            next = next_agree same decides table everywhere n sound f g j.gate.id (λ y. eqb y j.signal) (stem_apart few) inputs state a b p q (at_gate elsewhere pin);
          }
      | inr many ↦
          let elsewhere = input_branch many (Stem j.gate.id) refl in
          let here : is_line f.line (Pin j.gate.id j.place) ≡ true =
          ap (λ l. is_line l (Pin j.gate.id j.place)) (branch many) ∙ (ap (λ b. b && eqb j.place j.place) (eq-eqb j.gate.id j.gate.id refl) ∙ eq-eqb j.place j.place refl) in
          let pin = held table.known f (Pin j.gate.id j.place) (a j.signal) here in
          record {
            outs = outs_agree same decides table everywhere n sound f g j.gate.id (λ _. false) (branch_apart many) inputs state a b p q (at_gate elsewhere pin);
            next = next_agree same decides table everywhere n sound f g j.gate.id (λ _. false) (branch_apart many) inputs state a b p q (at_gate elsewhere pin);
          }
    ]

-- two assignments that are one on all signals
module _ {V : Type 0} (table : Table V) (n : Netlist) (sound : IsSound n) (f : Fault) (a b : ℕ → V) (same : All (λ x. a x ≡ b x) (signals n)) where
  same_cells : (ds : List Definition) → ((d : Definition) → Contains ds d → Contains n.definitions d) → flat_map (pins_of (with_fault table (Some f)) a) ds ≡ flat_map (pins_of (with_fault table (Some f)) b) ds
  same_cells [] within = refl
  same_cells (d ∷ ds) within =
      let read : All (Contains (signals n)) d.pins = All-contains (λ (e : Definition). All (Contains (signals n)) e.pins) n.definitions d sound.closed.pins (within d (contains_head d ds)) in
      let values = map_agree a b d.pins (All-from_contains (λ x. a x ≡ b x) d.pins (λ x c. All-contains (λ y. a y ≡ b y) (signals n) x same (All-contains (Contains (signals n)) d.pins x read c))) in
      ap (λ vs. on_pins (with_fault table (Some f)) d.id 0 vs ++ flat_map (pins_of (with_fault table (Some f)) a) ds) values
      ∙ ap (λ vs. pins_of (with_fault table (Some f)) b d ++ vs) (same_cells ds (λ e c. within e (contains_tail d e ds c)))

  pub same_agree : AgreeOn table n f f a b
  same_agree = record {
    outs = map_agree (λ x. (with_fault table (Some f)).line (Out x) (a x)) (λ x. (with_fault table (Some f)).line (Out x) (b x)) n.outputs
        (All-from_contains (λ x. (with_fault table (Some f)).line (Out x) (a x) ≡ (with_fault table (Some f)).line (Out x) (b x)) n.outputs
        (λ x c. ap ((with_fault table (Some f)).line (Out x)) (All-contains (λ y. a y ≡ b y) (signals n) x same (All-contains (Contains (signals n)) n.outputs x sound.closed.outputs c))));
    next = same_cells (cells n) (λ d c. (contains_filter is_cell n.definitions d c).0);
  }

module _ {V : Type 0} (same : V → V → Bool) (decides : (x y : V) → Decides (same x y) (x ≡ y)) (blank : V) (table : Table V) (controls : Controls table)
    (everywhere : HoldsEverywhere) (once : SettlesOnce V) (some : SomeSettles V) (n : Netlist) (sound : IsSound n) (inputs state : List V) where
  pub equivalent_agree : (f g : Fault) → IsEquivalent n f g → (a b : ℕ → V) → Settles (with_fault table (Some f)) n inputs state a → Settles (with_fault table (Some g)) n inputs state b → AgreeOn table n f g a b
  equivalent_agree f g (joined x y j) a b p q = joined_agree n sound f g j same decides table controls everywhere inputs state a b p q
  equivalent_agree f g (reflexive x) a b p q = same_agree table n sound f a b (once same decides (with_fault table (Some f)) n inputs state a b sound.closed sound.acyclic p q)
  equivalent_agree f g (symmetric x y e) a b p q = let h = equivalent_agree g f e b a q p in record { outs = sym h.outs; next = sym h.next }
  equivalent_agree f h (transitive x g y d e) a b p q =
      let m = some blank (with_fault table (Some g)) n inputs state sound.formed.numbered sound.closed sound.acyclic
      (zip_length (λ x v. a x ≡ (with_fault table (Some f)).line (Stem x) v) n.inputs inputs p.0)
      (zip_length (λ (c : Definition) v. a c.id ≡ (with_fault table (Some f)).line (Stem c.id) v) (cells n) state p.1) in
      let one = equivalent_agree f g d a m.0 p m.1 in
      let two = equivalent_agree g h e m.0 b m.1 q in
      record { outs = one.outs ∙ two.outs; next = one.next ∙ two.next }
