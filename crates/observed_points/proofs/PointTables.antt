-- Tables of observed points, as they are filled.
use Rattle.std.proofs.Common.{◌≡◌, ℕ, suc, Bool, true, false, cond, ◌+◌, ◌-◌, ◌<◌, ◌≤◌, ◌∷◌, [], List, map, length, get_or, set, sym, ◌∙◌, ap, subst, inl, inr, eqb, arith}
use Rattle.std.specs.List.{All, Contains, filter}
use Rattle.std.proofs.lemmas.Bool.{cases_lt, cases_eq, ne_eqb, eqb-true}
use Rattle.std.proofs.lemmas.List.{length-set, length-map, get_or-set_same, get_or-set_other, get_or-map, get_or_default}
use Rattle.std.proofs.lemmas.List.Elements.{All-contains, Contains-get_or}
use Rattle.std.proofs.lemmas.Map.Keys.{IsDistinct-from_apart}
use Rattle.std.proofs.lemmas.Map.Steps.{length-le_from_distinct_below}
use Rattle.std.proofs.lemmas.Map.Views.{Contains-from_any}
use Rattle.statement.specs.declared.kinds.Kind.TheVariants.{Dff}
use Rattle.statement.specs.declared.lines.Line.{Line}
use Rattle.statement.specs.declared.lines.Line.TheVariants.{Pin, Out}
use Rattle.netlist.specs.Conditions.{IsSound}
use Rattle.netlist.specs.Lines.{IsLineOf}
use Rattle.statement.specs.Netlists.{Definition, Netlist, is_cell, cells, signals}
use Rattle.netlist.specs.Netlist.{IsGateAt}
use Rattle.netlist.proofs.Lists.{contains_filter}
use Rattle.netlist.proofs.Orders.{cell_no_gate, input_low, definition_high}
use Rattle.netlist.proofs.Placed.{definition_below, signal_below, signal_cases, signals_length, same_definition}
use Rattle.netlist.proofs.Settling.{cells_distinct}
use Rattle.netlist.proofs.WellFormed.{one_pin}
use Rattle.events.specs.Stuck.{IsObservedOnly}
use Rattle.observed_points.specs.Points.{points, watched, AreFirst, AreCellPoints, IsReadAt}
use Rattle.observed_points.proofs.ObservedPoints.{points_count, watched_count, output_in, cell_in, signal_in, signal_within, watched_in}

-- one point more
pub first_more : (xs : List ℕ) (count m i : ℕ) (first : List ℕ) → AreFirst xs count (m + 1) first → m < length xs → i ≡ get_or xs m 0 → i < count → AreFirst xs count m (set first i m)
first_more xs count m i first h l is low = record {
  size = length-set first i m ∙ h.size;
  each = λ x k. elim (cases_eq x i) [
    | inl e ↦
        let inside : i < length first = subst (λ s. i < s) (sym h.size) low in
        let v : get_or (set first i m) x 0 ≡ m = ap (λ y. get_or (set first i m) y 0) e ∙ get_or-set_same first i m 0 inside in
        record {
          bounded = omega arith;
          here = λ _. ap (λ c. get_or xs c 0) v ∙ (sym is ∙ sym e);
          low = λ _. omega arith;
          before = λ j a b. absurd (omega arith);
        }
    | inr ne ↦
        let v : get_or (set first i m) x 0 ≡ get_or first x 0 = get_or-set_other first i x m 0 ne in
        let o = h.each x k in
        let low' = o.low in
        let most = o.bounded in
        record {
          bounded = omega arith;
          here = λ c. ap (λ c. get_or xs c 0) v ∙ o.here (omega arith);
          low = λ c. let d = o.low (omega arith) in omega arith;
          before = λ j a b. elim (cases_eq j m) [
            | inl same ↦ λ e. ne (sym e ∙ (ap (λ c. get_or xs c 0) same ∙ sym is))
            | inr other ↦ o.before j (omega arith) (omega arith)
          ];
        }
  ];
}

-- any definition, where a default is asked for
pub no_definition : Definition
no_definition = record { id = 0; kind = Dff; pins = [] }

below_cond : {X : Type 0} (b : Bool) (x : X) (ys : List X) (m : ℕ) → length ys ≤ m → length (cond b (x ∷ ys) ys) ≤ suc m
below_cond true x ys m l = omega arith
below_cond false x ys m l = omega arith

length-filter-le : {X : Type 0} (p : X → Bool) (xs : List X) → length (filter p xs) ≤ length xs
length-filter-le p [] = omega arith
length-filter-le p (x ∷ xs) = let l = length-filter-le p xs in below_cond (p x) x (filter p xs) (length xs) l

module _ (n : Netlist) (sound : IsSound n) where
  -- one cell more
  pub numbers_more : (ids numbers : List ℕ) (j i : ℕ) → ids ≡ map (λ (d : Definition). d.id) (cells n) → AreCellPoints n numbers j → j < length ids → i ≡ get_or ids j 0
      → AreCellPoints n (set numbers i (length n.outputs + j)) (j + 1)
  numbers_more ids numbers j i e h l is =
      let size : length ids ≡ length (cells n) = ap length e ∙ length-map (cells n) (λ (d : Definition). d.id) in
      let id : (k : ℕ) (d : Definition) → k < length ids → get_or ids k 0 ≡ (get_or (cells n) k d).id =
      λ k d k<. ap (λ (xs : List ℕ). get_or xs k 0) e ∙ get_or-map (λ (d : Definition). d.id) (cells n) k d 0 (omega arith) in
      let apart = cells_distinct n sound.formed.numbered ids e in
      let inside : i < length numbers = subst (λ s. i < s) (sym h.size) (subst (λ y. y < length (signals n)) (sym (is ∙ id j no_definition l))
      (definition_below n sound.formed.numbered (get_or (cells n) j no_definition) (contains_filter is_cell n.definitions (get_or (cells n) j no_definition) (Contains-get_or (cells n) j no_definition (omega arith))).0)) in
      record {
        size = length-set numbers i (length n.outputs + j) ∙ h.size;
        here = λ k d k<. elim (cases_eq k j) [
          | inl last ↦
              ap (λ y. get_or (set numbers i (length n.outputs + j)) y 0) (sym (id k d (omega arith)) ∙ (ap (λ y. get_or ids y 0) last ∙ sym is))
              ∙ (get_or-set_same numbers i (length n.outputs + j) 0 inside ∙ ap (λ y. length n.outputs + y) (sym last))
          | inr old ↦
              get_or-set_other numbers i (get_or (cells n) k d).id (length n.outputs + j) 0 (λ s. apart k j 0 (omega arith) l (id k d (omega arith) ∙ (s ∙ is)))
              ∙ h.here k d (omega arith)
        ];
        others = λ x x< none.
            get_or-set_other numbers i x (length n.outputs + j) 0 (λ s. none j no_definition (omega arith) (s ∙ (is ∙ id j no_definition l)))
            ∙ h.others x x< (λ k d k<. none k d (omega arith));
      }

  -- there are few points
  outputs_few : length n.outputs ≤ length (signals n)
  outputs_few =
      length-le_from_distinct_below n.outputs (length (signals n)) (IsDistinct-from_apart eqb n.outputs (λ i j d l m. ne_eqb (get_or n.outputs i d) (get_or n.outputs j d) (sound.formed.once i j d l m)))
      (λ q e. signal_below n sound.formed.numbered q (All-contains (Contains (signals n)) n.outputs q sound.closed.outputs (Contains-from_any {eq = eqb} (λ x y h. eqb-true x y h) q n.outputs e)))

  pub points_few : length (points n) ≤ 16000000
  points_few =
      let few = outputs_few in
      let all = points_count n sound in
      let small = sound.sized.small in
      let size = signals_length n in
      let some = length-filter-le is_cell n.definitions in
      omega arith

  -- an output's point is the first that reads its signal
  pub output_read : (seen first : List ℕ) (line : Line) (y : ℕ) → line ≡ Out y → IsLineOf n line → seen ≡ watched n → AreFirst seen (length (signals n)) 0 first → IsReadAt n line (get_or first y 0)
  output_read seen first line y e h s f =
      let w = subst (IsLineOf n) e h in
      let inside = signal_below n sound.formed.numbered y (All-contains (Contains (signals n)) n.outputs y sound.closed.outputs w) in
      let o = f.each y inside in
      let k : w.0 < length n.outputs = w.1 in
      let all = points_count n sound in
      let count : length seen ≡ length (points n) = ap length s ∙ watched_count n sound in
      let at_k : get_or seen w.0 0 ≡ y = ap (λ (xs : List ℕ). get_or xs w.0 0) s ∙ (watched_in n sound w.0 (omega arith) ∙ (ap (λ (p : Line × ℕ). p.1) (output_in n sound w.0 w.1) ∙ (get_or_default n.outputs w.0 0 y w.1 ∙ w.2))) in
      let c : get_or first y 0 ≤ w.0 = elim (cases_lt w.0 (get_or first y 0)) [
        | inl below ↦ absurd (o.before w.0 (omega arith) below at_k)
        | inr high ↦ high
      ] in
      let here : get_or n.outputs (get_or first y 0) 0 ≡ y =
      sym (ap (λ (xs : List ℕ). get_or xs (get_or first y 0) 0) s ∙ (watched_in n sound (get_or first y 0) (omega arith) ∙ ap (λ (p : Line × ℕ). p.1) (output_in n sound (get_or first y 0) (omega arith)))) ∙ o.here (omega arith) in
      record {
        only = subst (IsObservedOnly n) (sym e) tt;
        within = omega arith;
        here = ap (λ (p : Line × ℕ). p.0) (output_in n sound (get_or first y 0) (omega arith)) ∙ (ap Out here ∙ sym e);
      }

  pub output_inside : (line : Line) (y : ℕ) → line ≡ Out y → IsLineOf n line → y < length (signals n)
  output_inside line y e h = signal_below n sound.formed.numbered y (All-contains (Contains (signals n)) n.outputs y sound.closed.outputs (subst (IsLineOf n) e h))

  module _ (numbers : List ℕ) (are : AreCellPoints n numbers (length (cells n))) (line : Line) (z k : ℕ) (e : line ≡ Pin z k) (h : IsLineOf n line) where
    defined : (d : Definition) × Contains n.definitions d × (d.id ≡ z) × (k < length d.pins)
    defined = subst (IsLineOf n) e h

    pub pin_inside : z < length (signals n)
    pin_inside = let w = defined in subst (λ y. y < length (signals n)) w.2 (definition_below n sound.formed.numbered w.0 w.1)

    input_defined : Contains n.inputs z → ⊥
    input_defined i =
        let w = defined in
        let low = input_low n sound.formed.numbered z i in
        let high = definition_high n sound.formed.numbered w.0 w.1 in
        let is = w.2 in
        omega arith

    gate_number : IsGateAt n z → get_or numbers z 0 ≡ length (points n)
    gate_number g = are.others z pin_inside (λ j d l s. cell_no_gate n sound.formed.numbered (get_or (cells n) j d) (Contains-get_or (cells n) j d l) (g.0, g.1, g.2 ∙ s))

    abbrev line_at : ℕ → Line
    line_at c = (get_or (points n) c (Out 0, 0)).0

    number_of_cell : (d : Definition) → (c : Contains (cells n) d) → d.id ≡ z → get_or numbers z 0 ≡ length n.outputs + c.0
    number_of_cell d c is = ap (λ y. get_or numbers y 0) (sym is ∙ ap (λ (f : Definition). f.id) (sym c.2)) ∙ are.here c.0 d c.1

    pub pin_read : get_or numbers z 0 < length (points n) → IsReadAt n line (get_or numbers z 0)
    pin_read low =
        let w = defined in
        elim (signal_cases n sound.formed.numbered z pin_inside) [
          | inl i ↦ absurd (input_defined i)
          | inr r ↦ elim r [
            | inl c ↦
                let d = c.0 in
                let number = number_of_cell c.0 c.1 c.2 in
                let j = c.1.0 in
                let l : c.1.0 < length (cells n) = c.1.1 in
                let same : w.0 ≡ c.0 = same_definition n sound.formed.numbered w.0 c.0 w.1 (contains_filter is_cell n.definitions c.0 c.1).0 (w.2 ∙ sym c.2) in
                let one : length w.0.pins ≡ 1 = ap (λ (f : Definition). length f.pins) same ∙ All-contains (λ (f : Definition). length f.pins ≡ 1) (cells n) c.0 (one_pin n sound.closed) c.1 in
                let zero_pin : 0 ≡ k = (let p : k < length w.0.pins = w.3 in omega arith) in
                let here : get_or (cells n) (length n.outputs + c.1.0 - length n.outputs) c.0 ≡ c.0 =
                ap (λ i. get_or (cells n) i c.0) (let q : length n.outputs + c.1.0 - length n.outputs ≡ c.1.0 = omega arith in q) ∙ c.1.2 in
                let all = points_count n sound in
                record {
                  only = subst (IsObservedOnly n) (sym e) (λ gate. cell_no_gate n sound.formed.numbered c.0 c.1 (gate.0, gate.1, gate.2 ∙ sym c.2));
                  within = low;
                  here = ap (λ i. line_at i) number
                      ∙ (ap (λ (p : Line × ℕ). p.0) (cell_in n sound (length n.outputs + c.1.0) c.0 (omega arith) (omega arith))
                      ∙ (ap (λ (f : Definition). Pin f.id 0) here ∙ (ap (λ y. Pin y 0) c.2 ∙ (ap (Pin z) zero_pin ∙ sym e))));
                }
            | inr g ↦ absurd (let none = gate_number g in omega arith)
          ]
        ]

    pub pin_unread : length (points n) ≤ get_or numbers z 0 → ¬ IsObservedOnly n line
    pin_unread high only =
        let none : ¬ IsGateAt n z = subst (IsObservedOnly n) e only in
        elim (signal_cases n sound.formed.numbered z pin_inside) [
          | inl i ↦ input_defined i
          | inr r ↦ elim r [
            | inl c ↦ (let number = number_of_cell c.0 c.1 c.2 in let all = points_count n sound in let l : c.1.0 < length (cells n) = c.1.1 in absurd (omega arith))
            | inr g ↦ none g
          ]
        ]

-- the signals of cells are signals
pub cell_inside : (n : Netlist) → IsSound n → (ids : List ℕ) (j : ℕ) → ids ≡ map (λ (d : Definition). d.id) (cells n) → j < length ids → get_or ids j 0 < length (signals n)
cell_inside n sound ids j e l =
    let size : length ids ≡ length (cells n) = ap length e ∙ length-map (cells n) (λ (d : Definition). d.id) in
    let d = get_or (cells n) j no_definition in
    let id : get_or ids j 0 ≡ (get_or (cells n) j no_definition).id = ap (λ (xs : List ℕ). get_or xs j 0) e ∙ get_or-map (λ (d : Definition). d.id) (cells n) j no_definition 0 (omega arith) in
    subst (λ x. x < length (signals n)) (sym id)
    (definition_below n sound.formed.numbered (get_or (cells n) j no_definition) (contains_filter is_cell n.definitions (get_or (cells n) j no_definition) (Contains-get_or (cells n) j no_definition (omega arith))).0)

-- what is watched are signals
pub watched_inside : (n : Netlist) (sound : IsSound n) → (seen : List ℕ) (m : ℕ) → seen ≡ watched n → m ≡ length (signals n) → All (λ x. x < m) seen
watched_inside n sound seen m e size k d l =
    let count : length seen ≡ length (points n) = ap length e ∙ watched_count n sound in
    let is : get_or seen k d ≡ signal_in n sound k = get_or_default seen k d 0 l ∙ (ap (λ (xs : List ℕ). get_or xs k 0) e ∙ watched_in n sound k (omega arith)) in
    let low = signal_below n sound.formed.numbered (signal_in n sound k) (signal_within n sound k (omega arith)) in
    omega arith
