-- One more gate in the order, and what a finished order shows.
use Rattle.std.proofs.Common.{◌≡◌, ℕ, suc, zero, ◌+◌, ◌<◌, ◌≤◌, ◌⊎◌, Bool, true, false, cond, ◌&&◌, List, [], ◌∷◌, ◌++◌, map, length, get_or, set, refl, sym, ◌∙◌, ap, subst, inl, inr, arith, eqb, ltb, length-append}
use Rattle.std.specs.List.{All, Contains}
use Rattle.std.proofs.lemmas.Bool.{and_from, and_parts, lt-ltb, ltb-true, cases_eq, cases_lt, cases_Bool, eq-eqb, ne_eqb, eqb-true, not_from_false, not-true}
use Rattle.std.proofs.lemmas.List.{length-set, get_or-set_same, get_or-set_other, get_or_append_left, get_or_push, get_or_default, get_or_past, length_push, length-map, get_or-append-add, get_or-map}
use Rattle.std.proofs.lemmas.List.Elements.{All-contains, All-append, All-map, Contains-append_cases, Contains-append_left, Contains-push}
use Rattle.statement.specs.Netlists.{Definition, Netlist, is_cell, cells, gates, signals}
use Rattle.netlist.specs.Netlist.{is_gate, IsLoop, IsOnLoop, IsAcyclic}
use Rattle.netlist.specs.Conditions.{IsClosed, IsNumbered}
use Rattle.netlist.specs.inner.Placed.{zeros, IsPlaced, IsSorted, start_ranks}
use Rattle.netlist.proofs.Lists.{contains_filter, filter_contains, contains_map}

zeros_cons : (y : ℕ) (ys : List ℕ) → zeros (y ∷ ys) ≡ cond {A = ℕ} (eqb y 0) 1 0 + zeros ys
zeros_cons y ys = refl

pub zeros_set : (ranks : List ℕ) (x r : ℕ) → x < length ranks → get_or ranks x 0 ≡ 0 → 0 < r → zeros (set ranks x r) + 1 ≡ zeros ranks
zeros_set [] x r l e p = absurd (omega (arith, l))
zeros_set (y ∷ ys) zero r l e p =
    let q : cond {A = ℕ} (eqb r 0) 1 0 ≡ 0 = ap (λ b. cond {A = ℕ} b 1 0) (ne_eqb r 0 (omega arith)) in
    let s : cond {A = ℕ} (eqb y 0) 1 0 ≡ 1 = ap (λ b. cond {A = ℕ} b 1 0) (eq-eqb y 0 e) in
    let t = zeros_cons r ys in
    let u = zeros_cons y ys in
    let v : zeros (set (y ∷ ys) 0 r) ≡ zeros (r ∷ ys) = refl in
    omega arith
zeros_set (y ∷ ys) (suc x) r l e p =
    let h = zeros_set ys x r (omega arith) e p in
    let t = zeros_cons y (set ys x r) in
    let u = zeros_cons y ys in
    let v : zeros (set (y ∷ ys) (suc x) r) ≡ zeros (y ∷ set ys x r) = refl in
    omega arith

pub zeros-le : (ranks : List ℕ) → zeros ranks ≤ length ranks
zeros-le [] = omega arith
zeros-le (y ∷ ys) =
    let h = zeros-le ys in
    let t = zeros_cons y ys in
    let one : (b : Bool) → cond {A = ℕ} b 1 0 ≤ 1 = elim [ true ↦ omega arith | false ↦ omega arith ] in
    let o = one (eqb y 0) in
    let v : length (y ∷ ys) ≡ suc (length ys) = refl in
    omega arith

low : (ranks : List ℕ) → All (λ r. r ≤ 1) ranks → (x : ℕ) → get_or ranks x 0 ≤ 1
low ranks h x = elim (cases_lt x (length ranks)) [
  | inl l ↦ h x 0 l
  | inr l ↦ let e : get_or ranks x 0 ≡ 0 = get_or_past ranks x 0 l in omega arith
]

module _ (n : Netlist) (numbered : IsNumbered n) where
  pub signal_below : (x : ℕ) → Contains (signals n) x → x < length (signals n)
  signal_below x c =
      let e : x ≡ c.0 = sym c.2 ∙ (get_or_default (signals n) c.0 x 0 c.1 ∙ numbered c.0 c.1) in
      let l : c.0 < length (signals n) = c.1 in
      omega arith

  pub signal_from : (x : ℕ) → x < length (signals n) → Contains (signals n) x
  signal_from x l = (x, l, get_or_default (signals n) x x 0 l ∙ numbered x l)

  pub input_below : (x : ℕ) → Contains n.inputs x → x < length (signals n)
  input_below x c = signal_below x (Contains-append_left n.inputs (map (λ (d : Definition). d.id) n.definitions) x c)

  -- where a definition stands
  pub id_at : (k : ℕ) (d : Definition) → k < length n.definitions → (get_or n.definitions k d).id ≡ length n.inputs + k
  id_at k d l =
      let ids : List ℕ = map (λ (e : Definition). e.id) n.definitions in
      let m : length ids ≡ length n.definitions = length-map n.definitions (λ (e : Definition). e.id) in
      sym (get_or-map (λ (e : Definition). e.id) n.definitions k d 0 l)
      ∙ (sym (get_or-append-add n.inputs ids k 0) ∙ numbered (length n.inputs + k) (omega (arith, length-append n.inputs ids)))

  pub definition_below : (d : Definition) → Contains n.definitions d → d.id < length (signals n)
  definition_below d c =
      let ids : List ℕ = map (λ (e : Definition). e.id) n.definitions in
      let m : length ids ≡ length n.definitions = length-map n.definitions (λ (e : Definition). e.id) in
      let at : d.id ≡ length n.inputs + c.0 = sym (ap (λ (e : Definition). e.id) c.2) ∙ id_at c.0 d c.1 in
      let l : c.0 < length n.definitions = c.1 in
      omega (arith, length-append n.inputs ids)

  pub same_definition : (d e : Definition) → Contains n.definitions d → Contains n.definitions e → d.id ≡ e.id → d ≡ e
  same_definition d e c f same =
      let p : d.id ≡ length n.inputs + c.0 = sym (ap (λ (g : Definition). g.id) c.2) ∙ id_at c.0 d c.1 in
      let q : e.id ≡ length n.inputs + f.0 = sym (ap (λ (g : Definition). g.id) f.2) ∙ id_at f.0 e f.1 in
      let k : c.0 ≡ f.0 = omega arith in
      sym c.2 ∙ (get_or_default n.definitions c.0 d e c.1 ∙ (ap (λ i. get_or n.definitions i e) k ∙ f.2))

  pub gate_defined : (d : Definition) → Contains (gates n) d → Contains n.definitions d
  gate_defined d c = (contains_filter is_gate n.definitions d c).0

  -- a signal is an input, or that of a cell or of a gate
  pub signal_cases : (x : ℕ) → x < length (signals n)
      → Contains n.inputs x ⊎ (((d : Definition) × Contains (cells n) d × (d.id ≡ x)) ⊎ ((d : Definition) × Contains (gates n) d × (d.id ≡ x)))
  signal_cases x l = elim (Contains-append_cases n.inputs (map (λ (d : Definition). d.id) n.definitions) x (signal_from x l)) [
    | inl i ↦ inl i
    | inr r ↦
        let m = contains_map (λ (d : Definition). d.id) n.definitions x r in
        elim (cases_Bool (is_cell m.0)) [
          | inl y ↦ inr (inl (m.0, filter_contains is_cell n.definitions m.0 m.1 y, m.2))
          | inr y ↦ inr (inr (m.0, filter_contains is_gate n.definitions m.0 m.1 (not_from_false (is_cell m.0) y), m.2))
        ]
  ]

  -- what has no rank is a gate
  pub unplaced_gate : (order ranks : List ℕ) → IsPlaced n order ranks → (z : ℕ) → z < length ranks → get_or ranks z 0 ≡ 0
      → (d : Definition) × Contains (gates n) d × (d.id ≡ z)
  unplaced_gate order ranks h z l e = elim (signal_cases z (subst (λ m. z < m) h.size l)) [
    | inl i ↦ let one : get_or ranks z 0 ≡ 1 = h.inputs z i in absurd (omega arith)
    | inr r ↦ elim r [
      | inl c ↦ let one : get_or ranks c.0.id 0 ≡ 1 = h.cells c.0 c.1 in let same : get_or ranks c.0.id 0 ≡ get_or ranks z 0 = ap (λ i. get_or ranks i 0) c.2 in absurd (omega arith)
      | inr g ↦ g
    ]
  ]

  -- the rank tells the place in the order
  pub ranked_at : (order ranks : List ℕ) → IsPlaced n order ranks → (y k : ℕ) → get_or ranks y 0 ≡ k + 2 → y ≡ get_or order k 0
  ranked_at order ranks h y k e = elim (cases_lt y (length ranks)) [
    | inr past ↦ let none : get_or ranks y 0 ≡ 0 = get_or_past ranks y 0 past in absurd (omega arith)
    | inl l ↦ elim (signal_cases y (subst (λ m. y < m) h.size l)) [
      | inl i ↦ let one : get_or ranks y 0 ≡ 1 = h.inputs y i in absurd (omega arith)
      | inr r ↦ elim r [
        | inl c ↦ let one : get_or ranks c.0.id 0 ≡ 1 = h.cells c.0 c.1 in let same : get_or ranks c.0.id 0 ≡ get_or ranks y 0 = ap (λ i. get_or ranks i 0) c.2 in absurd (omega arith)
        | inr g ↦
            let same : get_or ranks g.0.id 0 ≡ get_or ranks y 0 = ap (λ i. get_or ranks i 0) g.2 in
            let w = h.listed g.0 g.1 (omega arith) in
            let is : y ≡ get_or order w.0 0 = sym g.2 ∙ (sym w.2 ∙ get_or_default order w.0 g.0.id 0 w.1) in
            let rank : get_or ranks (get_or order w.0 0) 0 ≡ w.0 + 2 = h.ranked w.0 w.1 in
            let again : get_or ranks y 0 ≡ get_or ranks (get_or order w.0 0) 0 = ap (λ i. get_or ranks i 0) is in
            let at : w.0 ≡ k = omega arith in
            is ∙ ap (λ i. get_or order i 0) at
      ]
    ]
  ]

  -- one more gate is placed
  pub placed_more : (order ranks : List ℕ) (d : Definition) → IsPlaced n order ranks → Contains (gates n) d
      → get_or ranks d.id 0 ≡ 0 → ((x : ℕ) → Contains d.pins x → 0 < get_or ranks x 0)
      → IsPlaced n (order ++ d.id ∷ []) (set ranks d.id (length order + 2))
  placed_more order ranks d h g none ready =
      let r : ℕ = length order + 2 in
      let below : d.id < length ranks = subst (λ m. d.id < m) (sym h.size) (definition_below d (gate_defined d g)) in
      let at : get_or (set ranks d.id r) d.id 0 ≡ r = get_or-set_same ranks d.id r 0 below in
      let other : (x : ℕ) → 0 < get_or ranks x 0 → get_or (set ranks d.id r) x 0 ≡ get_or ranks x 0 =
      λ x p. get_or-set_other ranks d.id x r 0 (λ e. let f : get_or ranks x 0 ≡ get_or ranks d.id 0 = ap (λ i. get_or ranks i 0) e in omega arith) in
      let more : length (order ++ d.id ∷ []) ≡ length order + 1 = length_push order d.id in
      record {
        size = length-set ranks d.id r ∙ h.size;
        inputs = λ x c. let e : get_or ranks x 0 ≡ 1 = h.inputs x c in other x (omega arith) ∙ e;
        cells = λ e c. let f : get_or ranks e.id 0 ≡ 1 = h.cells e c in other e.id (omega arith) ∙ f;
        ranked = λ k l. elim (cases_eq k (length order)) [
          | inl last ↦ subst (λ i. get_or (set ranks d.id r) (get_or (order ++ d.id ∷ []) i 0) 0 ≡ i + 2) (sym last)
              (ap (λ i. get_or (set ranks d.id r) i 0) (get_or_push order d.id 0 (length order) refl) ∙ at)
          | inr old ↦
              let m : k < length order = omega arith in
              let e : get_or ranks (get_or order k 0) 0 ≡ k + 2 = h.ranked k m in
              ap (λ i. get_or (set ranks d.id r) i 0) (get_or_append_left order (d.id ∷ []) 0 k m) ∙ (other (get_or order k 0) (omega arith) ∙ e)
        ];
        above = λ e c p x m. elim (cases_eq e.id d.id) [
          | inl same ↦
              let is : e ≡ d = same_definition e d (gate_defined e c) (gate_defined d g) same in
              let low : 0 < get_or ranks x 0 = ready x (subst (λ (f : Definition). Contains f.pins x) is m) in
              let bound : get_or ranks x 0 ≤ length order + 1 = h.bounded x in
              let here : get_or (set ranks d.id r) e.id 0 ≡ r = ap (λ i. get_or (set ranks d.id r) i 0) same ∙ at in
              let there = other x low in
              (omega arith, omega arith)
          | inr differs ↦
              let here : get_or (set ranks d.id r) e.id 0 ≡ get_or ranks e.id 0 = get_or-set_other ranks d.id e.id r 0 differs in
              let was = h.above e c (omega arith) x m in
              let there = other x was.0 in
              (omega arith, omega arith)
        ];
        listed = λ e c p. elim (cases_eq e.id d.id) [
          | inl same ↦ subst (λ i. Contains (order ++ d.id ∷ []) i) (sym same) (Contains-push order d.id)
          | inr differs ↦
              let here : get_or (set ranks d.id r) e.id 0 ≡ get_or ranks e.id 0 = get_or-set_other ranks d.id e.id r 0 differs in
              Contains-append_left order (d.id ∷ []) e.id (h.listed e c (omega arith))
        ];
        gates = λ k l. elim (cases_eq k (length order)) [
          | inl last ↦ (d, g, sym (ap (λ i. get_or (order ++ d.id ∷ []) i 0) last ∙ get_or_push order d.id 0 (length order) refl))
          | inr old ↦
              let m : k < length order = omega arith in
              let w = h.gates k m in
              (w.0, w.1, w.2 ∙ sym (get_or_append_left order (d.id ∷ []) 0 k m))
        ];
        bounded = λ x. elim (cases_eq x d.id) [
          | inl same ↦ let here : get_or (set ranks d.id r) x 0 ≡ r = ap (λ i. get_or (set ranks d.id r) i 0) same ∙ at in omega arith
          | inr differs ↦
              let here : get_or (set ranks d.id r) x 0 ≡ get_or ranks x 0 = get_or-set_other ranks d.id x r 0 differs in
              let was : get_or ranks x 0 ≤ length order + 1 = h.bounded x in
              omega arith
        ];
        left = let z = zeros_set ranks d.id r below none (omega arith) in let s = h.left in omega (arith, length-set ranks d.id r);
      }

  -- a gate with a rank is on no loop
  ranked_below : (order ranks : List ℕ) → IsPlaced n order ranks → (set : ℕ → Bool) → IsLoop n set
      → (m z : ℕ) → get_or ranks z 0 ≤ m → 0 < get_or ranks z 0 → set z ≡ true → ⊥
  ranked_below order ranks h set loop zero z l p s = omega arith
  ranked_below order ranks h set loop (suc m) z l p s =
      let w = loop z s in
      let c = w.1 in
      let was = h.above c.0 c.1 (subst (λ i. 0 < get_or ranks i 0) (sym c.2) p) w.0 c.3 in
      let e : get_or ranks c.0.id 0 ≡ get_or ranks z 0 = ap (λ i. get_or ranks i 0) c.2 in
      ranked_below order ranks h set loop m w.0 (omega arith) was.0 w.2

  pub no_loop : (order ranks : List ℕ) → IsPlaced n order ranks → (z : ℕ) → 0 < get_or ranks z 0 → ¬ IsOnLoop n z
  no_loop order ranks h z p w = ranked_below order ranks h w.0 w.1 (get_or ranks z 0) z (omega arith) p w.2

  -- the gates that are left when no more can be placed
  left_over : List ℕ → ℕ → Bool
  left_over ranks z = eqb (get_or ranks z 0) 0 && ltb z (length ranks)

  left_over_from : (ranks : List ℕ) (z : ℕ) → z < length ranks → get_or ranks z 0 ≡ 0 → left_over ranks z ≡ true
  unfolding left_over
  left_over_from ranks z l e = and_from (eqb (get_or ranks z 0) 0) (ltb z (length ranks)) (eq-eqb (get_or ranks z 0) 0 e) (lt-ltb z (length ranks) l)

  left_over_parts : (ranks : List ℕ) (z : ℕ) → left_over ranks z ≡ true → (z < length ranks) × (get_or ranks z 0 ≡ 0)
  unfolding left_over
  left_over_parts ranks z s =
      let p = and_parts (eqb (get_or ranks z 0) 0) (ltb z (length ranks)) s in
      (ltb-true z (length ranks) p.1, eqb-true (get_or ranks z 0) 0 p.0)

  left_loop : (order ranks : List ℕ) → IsClosed n → IsSorted n order ranks → IsLoop n (left_over ranks)
  left_loop order ranks closed h z s =
      let p = left_over_parts ranks z s in
      let size = h.placed.size in
      let w = unplaced_gate order ranks h.placed z p.0 p.1 in
      let same : get_or ranks w.0.id 0 ≡ get_or ranks z 0 = ap (λ i. get_or ranks i 0) w.2 in
      elim (h.seen w.0 w.1) [
        | inl ranked ↦ absurd (omega arith)
        | inr m ↦
            let pins : All (Contains (signals n)) w.0.pins =
            All-contains (λ (d : Definition). All (Contains (signals n)) d.pins) n.definitions w.0 closed.pins (gate_defined w.0 w.1) in
            let below = signal_below m.0 (All-contains (Contains (signals n)) w.0.pins m.0 pins m.1) in
            (m.0, (w.0, w.1, w.2, m.1), left_over_from ranks m.0 (subst (λ k. m.0 < k) (sym size) below) m.2)
      ]

  pub on_loop : (order ranks : List ℕ) → IsClosed n → IsSorted n order ranks → (z : ℕ) → z < length ranks → get_or ranks z 0 ≡ 0 → IsOnLoop n z
  on_loop order ranks closed h z l e = (left_over ranks, left_loop order ranks closed h, left_over_from ranks z l e)

  -- where every signal has a rank there is no loop
  pub acyclic : (order ranks : List ℕ) → IsPlaced n order ranks → ((z : ℕ) → z < length ranks → 0 < get_or ranks z 0) → IsAcyclic n
  acyclic order ranks h all z w =
      let m = w.1 z w.2 in
      let r = m.1 in
      let l : r.0.id < length (signals n) = definition_below r.0 (gate_defined r.0 r.1) in
      no_loop order ranks h z (all z (subst (λ i. i < length ranks) r.2 (subst (λ k. r.0.id < k) (sym h.size) l))) w

  start_at : (d : Definition) → Contains n.definitions d → get_or (start_ranks n) d.id 0 ≡ cond {A = ℕ} (is_cell d) 1 0
  start_at d c =
      let f : Definition → ℕ = λ e. cond {A = ℕ} (is_cell e) 1 0 in
      let ones : List ℕ = map (λ (x : ℕ). 1) n.inputs in
      let m : length ones ≡ length n.inputs = length-map {B = ℕ} n.inputs (λ (x : ℕ). 1) in
      let at : d.id ≡ length ones + c.0 = sym (ap (λ (e : Definition). e.id) c.2) ∙ (id_at c.0 d c.1 ∙ ap (λ k. k + c.0) (sym m)) in
      ap (λ k. get_or (start_ranks n) k 0) at
      ∙ (get_or-append-add ones (map f n.definitions) c.0 0
      ∙ (get_or-map f n.definitions c.0 d 0 c.1 ∙ ap f c.2))

  ones_length : length (map {A = ℕ} {B = ℕ} (λ (x : ℕ). 1) n.inputs) ≡ length n.inputs
  ones_length = length-map {B = ℕ} n.inputs (λ (x : ℕ). 1)

  pub start_placed : IsPlaced n [] (start_ranks n)
  start_placed =
      let f : Definition → ℕ = λ e. cond {A = ℕ} (is_cell e) 1 0 in
      let ones : List ℕ = map (λ (x : ℕ). 1) n.inputs in
      let at_gate : (d : Definition) → Contains (gates n) d → get_or (start_ranks n) d.id 0 ≡ 0 =
      λ d c. let m = contains_filter is_gate n.definitions d c in
      start_at d m.0 ∙ ap (λ b. cond {A = ℕ} b 1 0) (not-true (is_cell d) m.1) in
      let below_two : (b : Bool) → cond {A = ℕ} b 1 0 ≤ 1 = elim [ true ↦ omega arith | false ↦ omega arith ] in
      record {
        size = length-append ones (map f n.definitions)
            ∙ (ap (λ k. k + length (map f n.definitions)) ones_length
            ∙ (ap (λ k. length n.inputs + k) (length-map n.definitions f ∙ sym (length-map n.definitions (λ (d : Definition). d.id)))
            ∙ sym (length-append n.inputs (map (λ (d : Definition). d.id) n.definitions))));
        inputs = λ x c.
            let l : c.0 < length n.inputs = c.1 in
            let e : x ≡ c.0 = sym c.2 ∙ (get_or_default n.inputs c.0 x 0 c.1
            ∙ (sym (get_or_append_left n.inputs (map (λ (d : Definition). d.id) n.definitions) 0 c.0 c.1)
            ∙ numbered c.0 (omega (arith, length-append n.inputs (map (λ (d : Definition). d.id) n.definitions))))) in
            ap (λ k. get_or (start_ranks n) k 0) e
            ∙ (get_or_append_left ones (map f n.definitions) 0 c.0 (subst (λ k. c.0 < k) (sym ones_length) c.1)
            ∙ get_or-map (λ (x : ℕ). 1) n.inputs c.0 0 0 c.1);
        cells = λ d c. let m = contains_filter is_cell n.definitions d c in start_at d m.0 ∙ ap (λ b. cond {A = ℕ} b 1 0) m.1;
        ranked = λ k l. absurd (omega arith);
        above = λ d c p x m. let z = at_gate d c in absurd (omega arith);
        listed = λ d c p. let z = at_gate d c in absurd (omega arith);
        gates = λ k l. absurd (omega arith);
        bounded = low (start_ranks n) (All-append (λ r. r ≤ 1) ones (map f n.definitions)
            (All-map (λ r. r ≤ 1) (λ (x : ℕ). 1) n.inputs (λ k d l. omega arith))
            (All-map (λ r. r ≤ 1) f n.definitions (λ k d l. below_two (is_cell (get_or n.definitions k d)))));
        left = let z = zeros-le (start_ranks n) in omega arith;
      }

pub signals_length : (n : Netlist) → length (signals n) ≡ length n.inputs + length n.definitions
signals_length n =
    length-append n.inputs (map (λ (d : Definition). d.id) n.definitions)
    ∙ ap (λ k. length n.inputs + k) (length-map n.definitions (λ (d : Definition). d.id))
