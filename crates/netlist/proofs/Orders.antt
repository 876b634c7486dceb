-- Orders of evaluation and the places in them.
use Rattle.std.proofs.Common.{◌≡◌, ℕ, ◌+◌, ◌<◌, ◌≤◌, ◌≢◌, true, List, map, length, get_or, set, sym, ◌∙◌, ap, subst, inl, inr, arith, eqb, length-append}
use Rattle.std.specs.List.{All, Contains}
use Rattle.std.proofs.lemmas.Bool.{both_ways, cases_eq, cases_lt, not-true, ne_eqb, eqb-true}
use Rattle.std.proofs.lemmas.List.{get_or_default, get_or_append_left, length-set, get_or-set_same, get_or-set_other}
use Rattle.std.proofs.lemmas.List.Elements.{All-contains}
use Rattle.std.proofs.lemmas.Map.Keys.{IsDistinct-from_apart}
use Rattle.std.proofs.lemmas.Map.Steps.{length-le_from_distinct_below}
use Rattle.std.proofs.lemmas.Map.Views.{Contains-from_any}
use Rattle.statement.specs.Netlists.{Definition, Netlist, is_cell, cells, gates, signals}
use Rattle.netlist.specs.Netlist.{is_gate, IsGateAt}
use Rattle.netlist.specs.Conditions.{IsClosed, IsNumbered}
use Rattle.netlist.specs.Orders.{IsOrder, ArePlaces}
use Rattle.netlist.specs.inner.Placed.{IsPlaced, ArePlacesUpTo}
use Rattle.netlist.proofs.Lists.{contains_filter, All-from_contains}
use Rattle.netlist.proofs.Placed.{same_definition, gate_defined, definition_below, signal_below, signal_from, signal_cases, id_at}

module _ (n : Netlist) (numbered : IsNumbered n) where
  pub input_low : (x : ℕ) → Contains n.inputs x → x < length n.inputs
  input_low x c =
      let names : List ℕ = map (λ (d : Definition). d.id) n.definitions in
      let l : c.0 < length n.inputs = c.1 in
      let is : x ≡ c.0 = sym c.2 ∙ (get_or_default n.inputs c.0 x 0 c.1 ∙ (sym (get_or_append_left n.inputs names 0 c.0 c.1) ∙ numbered c.0 (omega (arith, length-append n.inputs names)))) in
      omega arith

  pub definition_high : (d : Definition) → Contains n.definitions d → length n.inputs ≤ d.id
  definition_high d c = let at : d.id ≡ length n.inputs + c.0 = sym (ap (λ (e : Definition). e.id) c.2) ∙ id_at n numbered c.0 d c.1 in omega arith

  -- no gate drives an input or a cell
  pub input_no_gate : (x : ℕ) → Contains n.inputs x → ¬ IsGateAt n x
  input_no_gate x c w =
      let low = input_low x c in
      let high = definition_high w.0 (gate_defined n numbered w.0 w.1) in
      let is = w.2 in
      omega arith

  pub cell_no_gate : (d : Definition) → Contains (cells n) d → ¬ IsGateAt n d.id
  cell_no_gate d c w =
      let cell = contains_filter is_cell n.definitions d c in
      let gate = contains_filter is_gate n.definitions w.0 w.1 in
      let same : d ≡ w.0 = same_definition n numbered d w.0 cell.0 gate.0 (sym w.2) in
      both_ways (is_cell w.0) (not-true (is_cell w.0) gate.1) (subst (λ (e : Definition). is_cell e ≡ true) same cell.1)

  pub gate_below : (x : ℕ) → IsGateAt n x → x < length (signals n)
  gate_below x w = subst (λ y. y < length (signals n)) w.2 (definition_below n numbered w.0 (gate_defined n numbered w.0 w.1))

  pub gate_high : (x : ℕ) → IsGateAt n x → length n.inputs ≤ x
  gate_high x w = subst (λ y. length n.inputs ≤ y) w.2 (definition_high w.0 (gate_defined n numbered w.0 w.1))

  -- gates that were placed one by one
  pub order_of : (order ranks : List ℕ) → IsPlaced n order ranks → ((d : Definition) → Contains (gates n) d → 0 < get_or ranks d.id 0) → IsOrder n order
  order_of order ranks h all = record {
    members = λ k d l. let w = h.gates k l in (w.0, w.1, w.2 ∙ get_or_default order k 0 d l);
    all = All-from_contains (λ (g : Definition). Contains order g.id) (gates n) (λ g c. h.listed g c (all g c));
    once = λ i j d l m same.
        let a : get_or ranks (get_or order i 0) 0 ≡ i + 2 = h.ranked i (omega arith) in
        let b : get_or ranks (get_or order j 0) 0 ≡ j + 2 = h.ranked j m in
        let e : get_or order i 0 ≡ get_or order j 0 = get_or_default order i 0 d (omega arith) ∙ (same ∙ get_or_default order j d 0 m) in
        let f : get_or ranks (get_or order i 0) 0 ≡ get_or ranks (get_or order j 0) 0 = ap (λ x. get_or ranks x 0) e in
        omega arith;
    after = λ j k l m r.
        let a : get_or ranks (get_or order j 0) 0 ≡ j + 2 = h.ranked j l in
        let b : get_or ranks (get_or order k 0) 0 ≡ k + 2 = h.ranked k m in
        let c : get_or ranks r.0.id 0 ≡ get_or ranks (get_or order k 0) 0 = ap (λ x. get_or ranks x 0) r.2 in
        let d = (h.above r.0 r.1 (all r.0 r.1) (get_or order j 0) r.3).1 in
        omega arith;
  }

  module _ (order : List ℕ) (ordered : IsOrder n order) where
    pub place_in : (g : Definition) → Contains (gates n) g → (k : ℕ) × (k < length order) × (get_or order k 0 ≡ g.id)
    place_in g c =
        let w = All-contains (λ (f : Definition). Contains order f.id) (gates n) g ordered.all c in
        (w.0, w.1, get_or_default order w.0 0 g.id w.1 ∙ w.2)

    pub same_place : (j k : ℕ) → j < length order → k < length order → get_or order j 0 ≡ get_or order k 0 → j ≡ k
    same_place j k l m e = elim (cases_eq j k) [
      | inl same ↦ same
      | inr differs ↦ elim (cases_lt j k) [
        | inl before ↦ absurd (ordered.once j k 0 before m e)
        | inr behind ↦ absurd (ordered.once k j 0 (omega arith) l (sym e))
      ]
    ]

    pub gates_few : length order ≤ length (signals n)
    gates_few =
        length-le_from_distinct_below order (length (signals n)) (IsDistinct-from_apart eqb order (λ i j d l m. ne_eqb (get_or order i d) (get_or order j d) (ordered.once i j d l m)))
        (λ q e. gate_below q (All-contains (IsGateAt n) order q ordered.members (Contains-from_any {eq = eqb} (λ x y h. eqb-true x y h) q order e)))

    pub other_input : (x k : ℕ) → Contains n.inputs x → k < length order → x ≢ get_or order k 0
    other_input x k c l e = input_no_gate x c (subst (IsGateAt n) (sym e) (ordered.members k 0 l))

    pub other_cell : (d : Definition) (k : ℕ) → Contains (cells n) d → k < length order → d.id ≢ get_or order k 0
    other_cell d k c l e = cell_no_gate d c (subst (IsGateAt n) (sym e) (ordered.members k 0 l))

    -- a gate reads nothing that stands behind it
    pub other_pin : (g : Definition) (j k x : ℕ) → Contains (gates n) g → g.id ≡ get_or order j 0 → j ≤ k → k < length order → Contains g.pins x → x ≢ get_or order k 0
    other_pin g j k x c at l m p e =
        let before = ordered.after k j m (omega arith) (g, c, at, subst (λ y. Contains g.pins y) e p) in
        omega arith

    -- one gate more has its place
    pub place_more : (places : List ℕ) (count k i : ℕ) → ArePlacesUpTo order places count k → k < length order → i ≡ get_or order k 0 → i < count
        → ArePlacesUpTo order (set places i k) count (k + 1)
    place_more places count k i h l is low =
        let inside : i < length places = subst (λ m. i < m) (sym h.size) low in
        record {
          size = length-set places i k ∙ h.size;
          here = λ j m. elim (cases_eq j k) [
            | inl last ↦ ap (λ y. get_or (set places i k) (get_or order y 0) 0) last ∙ (ap (λ y. get_or (set places i k) y 0) (sym is) ∙ (get_or-set_same places i k 0 inside ∙ sym last))
            | inr old ↦ get_or-set_other places i (get_or order j 0) k 0 (λ e. old (same_place j k (omega arith) l (e ∙ is))) ∙ h.here j (omega arith)
          ];
          others = λ x m none. get_or-set_other places i x k 0 (λ e. none k (omega arith) (e ∙ is)) ∙ h.others x m (λ j o. none j (omega arith));
        }

    pub all_placed : (places : List ℕ) (count m : ℕ) → count ≡ length (signals n) → m ≡ length order → ArePlacesUpTo order places count m → ArePlaces n order places
    all_placed places count m size all h = record {
      size = h.size ∙ size;
      gates = λ k l. h.here k (omega arith);
      sources = λ x c none. h.others x (let b = signal_below n numbered x c in omega arith) (λ k l e. none (subst (IsGateAt n) (sym e) (ordered.members k 0 (omega arith))));
    }

    module _ (places : List ℕ) (h : ArePlaces n order places) where
      -- a gate has the place where it stands
      pub place_of : (d : Definition) → Contains (gates n) d → (get_or places d.id 0 < length order) × (get_or order (get_or places d.id 0) 0 ≡ d.id)
      place_of d c =
          let w = place_in d c in
          let at : get_or places d.id 0 ≡ w.0 = ap (λ x. get_or places x 0) (sym w.2) ∙ h.gates w.0 w.1 in
          let l : w.0 < length order = w.1 in
          (omega arith, ap (λ k. get_or order k 0) at ∙ w.2)

      -- what has a place in the order is a gate
      pub gate_placed : (x : ℕ) → x < length (signals n) → get_or places x 0 < length order → IsGateAt n x
      gate_placed x l p = elim (signal_cases n numbered x l) [
        | inl i ↦ let none = h.sources x (signal_from n numbered x l) (input_no_gate x i) in absurd (omega arith)
        | inr r ↦ elim r [
          | inl c ↦
              let none = h.sources c.0.id (subst (Contains (signals n)) (sym c.2) (signal_from n numbered x l)) (cell_no_gate c.0 c.1) in
              let same : get_or places c.0.id 0 ≡ get_or places x 0 = ap (λ y. get_or places y 0) c.2 in
              absurd (omega arith)
          | inr g ↦ g
        ]
      ]

      pub place_bounded : (x : ℕ) → x < length (signals n) → get_or places x 0 ≤ length order
      place_bounded x l = elim (cases_lt (get_or places x 0) (length order)) [
        | inl low ↦ omega arith
        | inr high ↦ elim (signal_cases n numbered x l) [
          | inl i ↦ let none = h.sources x (signal_from n numbered x l) (input_no_gate x i) in omega arith
          | inr r ↦ elim r [
            | inl c ↦
                let none = h.sources c.0.id (subst (Contains (signals n)) (sym c.2) (signal_from n numbered x l)) (cell_no_gate c.0 c.1) in
                let same : get_or places c.0.id 0 ≡ get_or places x 0 = ap (λ y. get_or places y 0) c.2 in
                omega arith
            | inr g ↦ let p = (place_of g.0 g.1).0 in let same : get_or places g.0.id 0 ≡ get_or places x 0 = ap (λ y. get_or places y 0) g.2 in omega arith
          ]
        ]
      ]

      pub place_there : (x : ℕ) → x < length (signals n) → get_or places x 0 < length order → get_or order (get_or places x 0) 0 ≡ x
      place_there x l p =
          let g = gate_placed x l p in
          subst (λ y. get_or order (get_or places y 0) 0 ≡ y) g.2 (place_of g.0 g.1).1

      -- a gate stands behind the gates that it reads
      pub reads_above : IsClosed n → (d : Definition) (x : ℕ) → Contains (gates n) d → Contains d.pins x → get_or places x 0 < length order → get_or places x 0 < get_or places d.id 0
      reads_above closed d x c r p =
          let pins : All (Contains (signals n)) d.pins = All-contains (λ (e : Definition). All (Contains (signals n)) e.pins) n.definitions d closed.pins (gate_defined n numbered d c) in
          let below = signal_below n numbered x (All-contains (Contains (signals n)) d.pins x pins r) in
          let own = place_of d c in
          ordered.after (get_or places x 0) (get_or places d.id 0) p own.0 (d, c, sym own.1, subst (Contains d.pins) (sym (place_there x below p)) r)
