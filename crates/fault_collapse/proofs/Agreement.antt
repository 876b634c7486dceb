-- Assignments that settle under two faults and agree but on hidden signals.
use Rattle.std.proofs.Common.{◌≡◌, ◌≢◌, ℕ, ◌+◌, ◌||◌, Bool, true, false, cond, List, [], ◌∷◌, ◌++◌, map, refl, sym, ◌∙◌, ap, Some, inl, inr}
use Rattle.std.specs.Bool.{Decides}
use Rattle.std.specs.List.{All, AllZip, Contains, flat_map}
use Rattle.std.proofs.lemmas.Bool.{both_ways, cases_Bool, cases_eq, or_cases, or_left, or_right}
use Rattle.std.proofs.lemmas.List.Elements.{All-nil, All-cons, All-contains}
use Rattle.statement.specs.declared.lines.Line.{Line}
use Rattle.statement.specs.declared.lines.Line.TheVariants.{Stem, Pin, Out}
use Rattle.statement.specs.declared.lines.Fault.{Fault}
use Rattle.statement.specs.Netlists.{Definition, Netlist, is_cell, cells, gates, signals}
use Rattle.netlist.specs.Netlist.{is_gate}
use Rattle.netlist.specs.Conditions.{IsSound}
use Rattle.netlist.specs.Laws.{HoldsEverywhere}
use Rattle.statement.specs.Values.{Settles, Table, is_line, next, on_pins, outs, pins_of, stuck, with_fault}
use Rattle.netlist.proofs.Lists.{All-from_contains, contains_filter, contains_head, contains_tail, map_agree}

-- what a line makes of a value where a fault is elsewhere, and where it is there
pub free : {V : Type 0} (known : Bool → V) (f : Fault) (l : Line) (v : V) → is_line f.line l ≡ false → stuck known (Some f) l v ≡ v
free known f l v e = ap (λ b. cond b (known f.value) v) e

pub held : {V : Type 0} (known : Bool → V) (f : Fault) (l : Line) (v : V) → is_line f.line l ≡ true → stuck known (Some f) l v ≡ known f.value
held known f l v e = ap (λ b. cond b (known f.value) v) e

-- Two faults that are apart from all lines but those of the signal z, which no cell and no input is, and those of hidden signals, which z alone reads.
pub record AreApart (n : Netlist) (f g : Fault) (z : ℕ) (hidden : ℕ → Bool) : Type 0 where
  pub stems : (y : ℕ) → y ≢ z → hidden y ≡ false → (is_line f.line (Stem y) ≡ false) × (is_line g.line (Stem y) ≡ false)
  pub pins : (d : Definition) → Contains n.definitions d → d.id ≢ z → (k : ℕ) → (is_line f.line (Pin d.id k) ≡ false) × (is_line g.line (Pin d.id k) ≡ false)
  pub outs : (y : ℕ) → (is_line f.line (Out y) ≡ false) × (is_line g.line (Out y) ≡ false)
  pub unread : (d : Definition) → Contains n.definitions d → d.id ≢ z → (y : ℕ) → Contains d.pins y → hidden y ≡ false
  pub unseen : (y : ℕ) → Contains n.outputs y → hidden y ≡ false
  pub inputs : (y : ℕ) → Contains n.inputs y → y ≢ z
  pub cells : (d : Definition) → Contains (cells n) d → d.id ≢ z

module _ {V : Type 0} (same : V → V → Bool) (decides : (x y : V) → Decides (same x y) (x ≡ y)) (table : Table V)
    (everywhere : HoldsEverywhere) (n : Netlist) (sound : IsSound n) (f g : Fault) (z : ℕ) (hidden : ℕ → Bool) (apart : AreApart n f g z hidden)
    (inputs state : List V) (a b : ℕ → V) (p : Settles (with_fault table (Some f)) n inputs state a) (q : Settles (with_fault table (Some g)) n inputs state b) (at_z : a z ≡ b z) where
  -- a signal agrees or is hidden

  agrees_seen : (y : ℕ) → hidden y || same (a y) (b y) ≡ true → hidden y ≡ false → a y ≡ b y
  agrees_seen y t seen = elim (or_cases (hidden y) (same (a y) (b y)) t) [
    | inl h ↦ absurd (both_ways (hidden y) seen h)
    | inr e ↦ (decides (a y) (b y)).0 e
  ]

  agrees_from : (y : ℕ) → (hidden y ≡ false → a y ≡ b y) → hidden y || same (a y) (b y) ≡ true
  agrees_from y h = elim (cases_Bool (hidden y)) [
    | inl e ↦ or_left (hidden y) (same (a y) (b y)) e
    | inr e ↦ or_right (hidden y) (same (a y) (b y)) ((decides (a y) (b y)).1 (h e))
  ]

  -- sources
  sources : {X : Type 0} (key : X → ℕ) (xs : List X) (vs : List V) → ((x : X) → Contains xs x → key x ≢ z)
      → AllZip (λ x v. a (key x) ≡ (with_fault table (Some f)).line (Stem (key x)) v) xs vs → AllZip (λ x v. b (key x) ≡ (with_fault table (Some g)).line (Stem (key x)) v) xs vs
      → All (λ x. hidden (key x) || same (a (key x)) (b (key x)) ≡ true) xs
  sources key [] vs away h k = All-nil _
  sources key (x ∷ xs) [] away h k = absurd h
  sources {X} key (x ∷ xs) (v ∷ vs) away h k =
      All-cons (λ (y : X). hidden (key y) || same (a (key y)) (b (key y)) ≡ true) x xs
      (agrees_from (key x)
      (λ seen.
      let s = apart.stems (key x) (away x (contains_head x xs)) seen in
      h.0 ∙ (free table.known f (Stem (key x)) v s.0 ∙ sym (k.0 ∙ free table.known g (Stem (key x)) v s.1))))
      (sources key xs vs (λ y c. away y (contains_tail x y xs c)) h.1 k.1)

  -- the pins of a definition that is not z's
  pins_from : (x k : ℕ) (ys : List ℕ) → ((j : ℕ) → (is_line f.line (Pin x j) ≡ false) × (is_line g.line (Pin x j) ≡ false)) → ((y : ℕ) → Contains ys y → a y ≡ b y)
      → on_pins (with_fault table (Some f)) x k (map a ys) ≡ on_pins (with_fault table (Some g)) x k (map b ys)
  pins_from x k [] away agree = refl
  pins_from x k (y ∷ ys) away agree =
      let head : (with_fault table (Some f)).line (Pin x k) (a y) ≡ (with_fault table (Some g)).line (Pin x k) (b y) =
      free table.known f (Pin x k) (a y) (away k).0 ∙ (agree y (contains_head y ys) ∙ sym (free table.known g (Pin x k) (b y) (away k).1)) in
      ap (λ v. v ∷ on_pins (with_fault table (Some f)) x (k + 1) (map a ys)) head
      ∙ ap (λ vs. (with_fault table (Some g)).line (Pin x k) (b y) ∷ vs) (pins_from x (k + 1) ys away (λ w c. agree w (contains_tail y w ys c)))

  same_pins : (d : Definition) → Contains n.definitions d → d.id ≢ z → ((y : ℕ) → Contains d.pins y → hidden y || same (a y) (b y) ≡ true)
      → pins_of (with_fault table (Some f)) a d ≡ pins_of (with_fault table (Some g)) b d
  same_pins d c away t = pins_from d.id 0 d.pins (apart.pins d c away) (λ y m. agrees_seen y (t y m) (apart.unread d c away y m))

  at_gate : (d : Definition) → Contains (gates n) d → All (λ y. hidden y || same (a y) (b y) ≡ true) d.pins → hidden d.id || same (a d.id) (b d.id) ≡ true
  at_gate d c t = elim (cases_eq d.id z) [
    | inl e ↦ agrees_from d.id (λ seen. ap a e ∙ (at_z ∙ ap b (sym e)))
    | inr away ↦ agrees_from d.id
        (λ seen.
        let s = apart.stems d.id away seen in
        let here = All-contains (λ (e : Definition). a e.id ≡ (with_fault table (Some f)).line (Stem e.id) (table.gate e.kind (pins_of (with_fault table (Some f)) a e))) (gates n) d p.2 c in
        let there = All-contains (λ (e : Definition). b e.id ≡ (with_fault table (Some g)).line (Stem e.id) (table.gate e.kind (pins_of (with_fault table (Some g)) b e))) (gates n) d q.2 c in
        let pins = same_pins d (contains_filter is_gate n.definitions d c).0 away (λ y m. All-contains (λ w. hidden w || same (a w) (b w) ≡ true) d.pins y t m) in
        here ∙ (free table.known f (Stem d.id) (table.gate d.kind (pins_of (with_fault table (Some f)) a d)) s.0
        ∙ (ap (table.gate d.kind) pins ∙ sym (there ∙ free table.known g (Stem d.id) (table.gate d.kind (pins_of (with_fault table (Some g)) b d)) s.1))))
  ]

  signals_agree : All (λ y. hidden y || same (a y) (b y) ≡ true) (signals n)
  signals_agree = everywhere n (λ y. hidden y || same (a y) (b y)) sound.closed sound.acyclic
      (sources (λ y. y) n.inputs inputs apart.inputs p.0 q.0)
      (sources (λ (d : Definition). d.id) (cells n) state apart.cells p.1 q.1)
      at_gate

  signal_agrees : (y : ℕ) → Contains (signals n) y → hidden y || same (a y) (b y) ≡ true
  signal_agrees y c = All-contains (λ w. hidden w || same (a w) (b w) ≡ true) (signals n) y signals_agree c

  pub outs_agree : outs (with_fault table (Some f)) n a ≡ outs (with_fault table (Some g)) n b
  outs_agree = map_agree (λ y. (with_fault table (Some f)).line (Out y) (a y)) (λ y. (with_fault table (Some g)).line (Out y) (b y)) n.outputs
      (All-from_contains (λ y. (with_fault table (Some f)).line (Out y) (a y) ≡ (with_fault table (Some g)).line (Out y) (b y)) n.outputs
      (λ y c.
      let agree = agrees_seen y (signal_agrees y (All-contains (Contains (signals n)) n.outputs y sound.closed.outputs c)) (apart.unseen y c) in
      free table.known f (Out y) (a y) (apart.outs y).0 ∙ (agree ∙ sym (free table.known g (Out y) (b y) (apart.outs y).1))))

  cells_agree : (ds : List Definition) → ((d : Definition) → Contains ds d → Contains (cells n) d) → flat_map (pins_of (with_fault table (Some f)) a) ds ≡ flat_map (pins_of (with_fault table (Some g)) b) ds
  cells_agree [] within = refl
  cells_agree (d ∷ ds) within =
      let cell = within d (contains_head d ds) in
      let defined = (contains_filter is_cell n.definitions d cell).0 in
      let read : All (Contains (signals n)) d.pins = All-contains (λ (e : Definition). All (Contains (signals n)) e.pins) n.definitions d sound.closed.pins defined in
      let pins = same_pins d defined (apart.cells d cell) (λ y m. signal_agrees y (All-contains (Contains (signals n)) d.pins y read m)) in
      ap (λ vs. vs ++ flat_map (pins_of (with_fault table (Some f)) a) ds) pins ∙ ap (λ vs. pins_of (with_fault table (Some g)) b d ++ vs) (cells_agree ds (λ e c. within e (contains_tail d e ds c)))

  pub next_agree : next (with_fault table (Some f)) n a ≡ next (with_fault table (Some g)) n b
  next_agree = cells_agree (cells n) (λ d c. c)
