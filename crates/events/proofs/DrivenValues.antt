-- Other values driven onto inputs and cells.
use Rattle.std.proofs.Common.{◌≡◌, ℕ, ◌+◌, ◌<◌, ◌≢◌, Bool, true, false, List, map, length, get_or, set, refl, sym, ◌∙◌, ap, subst, inl, inr, arith}
use Rattle.std.specs.List.{Contains, list_any}
use Rattle.std.proofs.lemmas.Bool.{cases_eq, cases_lt, both_ways, or_left, or_right}
use Rattle.std.proofs.lemmas.List.{get_or-set_same, get_or-set_other, get_or_past, set-get_or, get_or-map, length-map}
use Rattle.std.proofs.lemmas.List.Elements.{All-contains, Contains-get_or}
use Rattle.statement.specs.declared.lines.Line.TheVariants.{Stem}
use Rattle.netlist.specs.Conditions.{IsSound}
use Rattle.statement.specs.Netlists.{Definition, Netlist, cells, gates, signals, readers_of}
use Rattle.statement.specs.Values.{Rule, on_pins, pins_of}
use Rattle.netlist.specs.Settled.{at}
use Rattle.netlist.specs.Settling.{IsDriven}
use Rattle.netlist.proofs.Lists.{map_agree, All-from_contains}
use Rattle.netlist.proofs.Placed.{gate_defined, signals_length}
use Rattle.netlist.proofs.Settling.{zip_kept, drive_more, driven}
use Rattle.events.specs.declared.trails.Change.{Change}
use Rattle.events.specs.Agendas.{marked}
use Rattle.events.specs.Standing.{SettlesFor}
use Rattle.events.specs.inner.Driving.{AreCalled, StayMarked, Puts, AreDriven}
use Rattle.events.specs.inner.Placing.{AreTables, Calls, is_pin_at, waiting}
use Rattle.events.specs.inner.Running.{Resettles}
use Rattle.netlist.proofs.Orders.{place_of}
use Rattle.events.proofs.Placing.{read_called}
use Rattle.events.proofs.Steps.{input_no_gate, cell_no_gate}

pub stay_same : (marks : List Bool) → StayMarked marks marks
stay_same marks = record { size = refl; kept = λ q m. m }

stay_on : (a b c : List Bool) → StayMarked a b → StayMarked b c → StayMarked a c
stay_on a b c h k = record { size = k.size ∙ h.size; kept = λ q m. k.kept q (h.kept q m) }

-- a place that is marked is within
marked_within : (marks : List Bool) (q : ℕ) → marked marks q ≡ true → q < length marks
marked_within marks q m = elim (cases_lt q (length marks)) [
  | inl l ↦ l
  | inr past ↦ absurd (both_ways (marked marks q) (get_or_past marks q false past) m)
]

-- a signal keeps its value
pub put_same : {V : Type 0} (n : Netlist) (places : List ℕ) (id : ℕ) (v : V) (old : List V) (marks : List Bool) → ((d : V) → v ≡ at old d id) → Puts n places id v old old marks marks
put_same n places id v old marks same = record {
  stay = stay_same marks;
  values = sym (ap (set old id) (same v) ∙ set-get_or old id v);
  called = inl same;
}

-- a signal has another value
pub put_other : {V : Type 0} (n : Netlist) (places : List ℕ) (id i : ℕ) (v : V) (old : List V) (marks marks' : List Bool) → i ≡ id → Calls (readers_of n id) places marks marks'
    → Puts n places id v old (set old i v) marks marks'
put_other n places id i v old marks marks' e h = record {
  stay = record {
    size = h.size;
    kept = λ q m. h.each q (marked_within marks q m) ∙ or_left (marked marks q) (list_any (is_pin_at places q) (readers_of n id)) m;
  };
  values = ap (λ k. set old k v) e;
  called = inr (λ q l any. h.each q (subst (λ s. q < s) h.size l) ∙ or_right (marked marks q) (list_any (is_pin_at places q) (readers_of n id)) any);
}

still_called : (n : Netlist) (places : List ℕ) (x : ℕ) (marks marks' : List Bool) → StayMarked marks marks' → AreCalled n places x marks → AreCalled n places x marks'
still_called n places x marks marks' stay h q l any = stay.kept q (h q (subst (λ s. q < s) stay.size l) any)

-- one signal more
pub one_driven : {V : Type 0} (rule : Rule V) (n : Netlist) (places ids : List ℕ) (driven old new new' : List V) (marks marks' marks'' : List Bool) (m i : ℕ) (v w : V)
    → AreDriven rule n places ids driven old new marks marks' m → Puts n places i v new new' marks' marks'' → m < length ids → m < length driven → i < length new → i ≡ get_or ids m 0
    → ((j : ℕ) → j < m → get_or ids j 0 ≢ get_or ids m 0) → w ≡ get_or driven m w → v ≡ rule.line (Stem i) w → AreDriven rule n places ids driven old new' marks marks'' (m + 1)
one_driven {V} rule n places ids driven old new new' marks marks' marks'' m i v w h p l l' below is distinct read made =
    let next = set new i v in
    record {
      stay = stay_on marks marks' marks'' h.stay p.stay;
      driven_is = subst (λ (vs : List V). IsDriven rule ids driven old vs (m + 1)) (sym p.values) (drive_more rule ids driven old new m i v w h.driven_is l l' below is distinct read made);
      called = λ x. elim (cases_eq x i) [
        | inl e ↦ elim p.called [
          | inl same ↦ elim (h.called x) [
            | inl before ↦ inl (λ d. ap (λ (vs : List V). at vs d x) p.values ∙ (ap (at next d) e ∙ (get_or-set_same new i v d below ∙ (same d ∙ (ap (at new d) (sym e) ∙ before d)))))
            | inr called ↦ inr (still_called n places x marks' marks'' p.stay called)
          ]
          | inr called ↦ inr (subst (λ y. AreCalled n places y marks'') (sym e) called)
        ]
        | inr ne ↦ elim (h.called x) [
          | inl before ↦ inl (λ d. ap (λ (vs : List V). at vs d x) p.values ∙ (get_or-set_other new i x v d ne ∙ before d))
          | inr called ↦ inr (still_called n places x marks' marks'' p.stay called)
        ]
      ];
    }

module _ {V : Type 0} (rule : Rule V) (n : Netlist) (sound : IsSound n) (order places : List ℕ) (fans : List (List ℕ)) (tables : AreTables n order places fans)
    (ids cell_ids : List ℕ) (inputs state v0 v1 v2 : List V) (m0 m1 m2 : List Bool) (marks_size : length m0 ≡ length order) (size : length v0 ≡ length (signals n))
    (ids_are : ids ≡ n.inputs) (cells_are : cell_ids ≡ map (λ (d : Definition). d.id) (cells n)) (li : length inputs ≡ length n.inputs) (ls : length state ≡ length (cells n))
    (a : AreDriven rule n places ids inputs v0 v1 m0 m1 (length ids)) (b : AreDriven rule n places cell_ids state v1 v2 m1 m2 (length cell_ids)) where
  -- a signal whose reader isn't marked has the value that it had
  unchanged : (g : Definition) (x : ℕ) (d : V) → Contains (gates n) g → Contains g.pins x → waiting m2 places g.id ≡ false → at v2 d x ≡ at v0 d x
  unchanged g x d c r f =
      let low = (place_of n sound.formed.numbered order tables.ordered places tables.placed g c).0 in
      let any = read_called places (get_or places g.id 0) x n g (gate_defined n sound.formed.numbered g c) refl r in
      let s = a.stay.size in
      let t = b.stay.size in
      elim (b.called x) [
        | inl second ↦ elim (a.called x) [
          | inl first ↦ second d ∙ first d
          | inr called ↦ absurd (both_ways (marked m2 (get_or places g.id 0)) f (b.stay.kept (get_or places g.id 0) (called (get_or places g.id 0) (omega arith) any)))
        ]
        | inr called ↦ absurd (both_ways (marked m2 (get_or places g.id 0)) f (called (get_or places g.id 0) (omega arith) any))
      ]

  input_here : (k : ℕ) (g : Definition) → k < length ids → Contains (gates n) g → g.id ≢ get_or ids k 0
  input_here k g l c e = input_no_gate n sound.formed.numbered (get_or ids k 0) g (subst (λ (xs : List ℕ). Contains xs (get_or ids k 0)) ids_are (Contains-get_or ids k 0 l)) c (sym e)

  cell_here : (k : ℕ) (g : Definition) → k < length cell_ids → Contains (gates n) g → g.id ≢ get_or cell_ids k 0
  cell_here k g l c e =
      let many : length cell_ids ≡ length (cells n) = ap length cells_are ∙ length-map (cells n) (λ (d : Definition). d.id) in
      let f = get_or (cells n) k g in
      let id : get_or cell_ids k 0 ≡ (get_or (cells n) k g).id = ap (λ (xs : List ℕ). get_or xs k 0) cells_are ∙ get_or-map (λ (d : Definition). d.id) (cells n) k g 0 (omega arith) in
      cell_no_gate n sound.formed.numbered f g (Contains-get_or (cells n) k g (omega arith)) c (sym (e ∙ id))

  -- a gate has the value that it had
  gate_kept : (g : Definition) (d : V) → Contains (gates n) g → at v2 d g.id ≡ at v0 d g.id
  gate_kept g d c = b.driven_is.others g.id d (λ k l. cell_here k g l c) ∙ a.driven_is.others g.id d (λ k l. input_here k g l c)

  pub drives : (v3 : List V) (t t' : List (Change V)) → Resettles rule n places v2 v3 m2 t t' → SettlesFor rule n inputs state v0 v3
  drives v3 t t' r = record {
    each = λ inputs' state' d s.
        let up = driven n sound.formed.numbered rule order ids cell_ids inputs state v0 v1 v2 (size ∙ signals_length n) ids_are cells_are li ls a.driven_is b.driven_is in
        let first = up.each d in
        r.settles inputs state d record {
          inputs_driven = zip_kept (λ x v. at v2 d x ≡ rule.line (Stem x) v) (λ x v. waiting m2 places x ≡ false → at v2 d x ≡ rule.line (Stem x) v) n.inputs inputs (λ x v c k f. k) first.inputs_driven;
          cells_driven = zip_kept (λ (e : Definition) v. at v2 d e.id ≡ rule.line (Stem e.id) v) (λ (e : Definition) v. waiting m2 places e.id ≡ false → at v2 d e.id ≡ rule.line (Stem e.id) v) (cells n) state (λ e v c k f. k) first.cells_driven;
          gates_done = λ g c f.
              gate_kept g d c ∙ (All-contains (λ (e : Definition). at v0 d e.id ≡ rule.line (Stem e.id) (rule.gate e (pins_of rule (at v0 d) e))) (gates n) g s.2 c
              ∙ ap (λ vs. rule.line (Stem g.id) (rule.gate g (on_pins rule g.id 0 vs)))
              (sym (map_agree (at v2 d) (at v0 d) g.pins (All-from_contains (λ x. at v2 d x ≡ at v0 d x) g.pins (λ x q. unchanged g x d c q f)))));
        };
  }
