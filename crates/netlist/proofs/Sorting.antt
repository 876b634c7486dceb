-- Visits keep what a sorting in the making is, and it is sorted where all that is placed is visited.
use Rattle.std.proofs.Common.{◌≡◌, ℕ, ◌+◌, ◌<◌, ◌≤◌, ◌⊎◌, Bool, true, false, List, [], ◌++◌, map, length, get_or, refl, sym, ◌∙◌, ap, subst, inl, inr, arith, eqb, ltb, length-append, Some, slice_get}
use Rattle.std.specs.List.{Contains}
use Rattle.std.proofs.lemmas.Bool.{cases_Bool, cases_eq, cases_lt, eq-eqb, eqb-true, lt-ltb, le-ltb, ltb-true, ltb-false, and_from, and_parts, and_cases, and_left, or_cases, or_left, or_right}
use Rattle.std.proofs.lemmas.List.{length-map, get_or_past, get_or-map, get_or-append-add, append-nil}
use Rattle.std.proofs.lemmas.Option.{get_or_from_slice_get, slice_get_within}
use Rattle.statement.specs.declared.lines.Line.{Line}
use Rattle.netlist.specs.declared.order.Placing.{Placing}
use Rattle.statement.specs.Netlists.{Definition, Netlist, signals, readers_of}
use Rattle.netlist.specs.Netlist.{also}
use Rattle.netlist.specs.Conditions.{IsNumbered}
use Rattle.netlist.specs.inner.Placed.{zeros, IsPlaced, IsSorted, start_ranks}
use Rattle.netlist.specs.inner.Sorting.{unvisited, pins_among, placed_below, sources_below, start_counts, IsCounted, IsStarted, HasRoom, Counts}
use Rattle.netlist.proofs.Placed.{zeros-le, definition_below, gate_defined, id_at, ranked_at, start_placed, signals_length}
use Rattle.netlist.proofs.Waiting.{unvisited_also, some_unvisited, unvisited_agree, pins_of_readers}

-- what is visited may be said in another way
pub visited_agree : (n : Netlist) (v w : ℕ → Bool) (lines : List Line) (p : Placing) → ((y : ℕ) → v y ≡ w y) → IsCounted n v lines p → IsCounted n w lines p
visited_agree n v w lines p same h = record {
  placed = h.placed;
  visited_placed = λ x s. h.visited_placed x (same x ∙ s);
  counted = λ d g e. h.counted d g e ∙ ap (λ m. m + pins_among d.id lines) (unvisited_agree v w same d.pins);
  waits = h.waits;
}

-- a visit begins: the pins that read x are on the lines
pub visit_begins : (n : Netlist) → IsNumbered n → (visited : ℕ → Bool) (x : ℕ) (p : Placing) → visited x ≡ false → 0 < get_or p.ranks.items x 0
    → IsCounted n visited [] p → IsCounted n (also visited x) (readers_of n x ++ []) p
visit_begins n numbered visited x p fresh ranked h = record {
  placed = h.placed;
  visited_placed = λ y s. elim (or_cases (visited y) (eqb y x) s) [
    | inl was ↦ h.visited_placed y was
    | inr is ↦ subst (λ i. 0 < get_or p.ranks.items i 0) (sym (eqb-true y x is)) ranked
  ];
  counted = λ d g e.
      let was : get_or p.counts.items d.id 0 ≡ unvisited visited d.pins + 0 = h.counted d g e in
      let more = unvisited_also visited x fresh d.pins in
      let pins = pins_of_readers n numbered d (gate_defined n numbered d g) x in
      let all : pins_among d.id (readers_of n x ++ []) ≡ pins_among d.id (readers_of n x) = ap (pins_among d.id) (append-nil (readers_of n x)) in
      omega arith;
  waits = h.waits;
}

same_test : (a b : Bool) → (a ≡ true → b ≡ true) → (b ≡ true → a ≡ true) → a ≡ b
same_test true b f g = sym (f refl)
same_test false true f g = g refl
same_test false false f g = refl

placed_below_from : (ranks : List ℕ) (r y : ℕ) → 0 < get_or ranks y 0 → get_or ranks y 0 < r → placed_below ranks r y ≡ true
placed_below_from ranks r y l m = and_from (ltb 0 (get_or ranks y 0)) (ltb (get_or ranks y 0) r) (lt-ltb 0 (get_or ranks y 0) l) (lt-ltb (get_or ranks y 0) r m)

placed_below_parts : (ranks : List ℕ) (r y : ℕ) → placed_below ranks r y ≡ true → (0 < get_or ranks y 0) × (get_or ranks y 0 < r)
placed_below_parts ranks r y s =
    let w = and_parts (ltb 0 (get_or ranks y 0)) (ltb (get_or ranks y 0) r) s in
    (ltb-true 0 (get_or ranks y 0) w.0, ltb-true (get_or ranks y 0) r w.1)

sources_below_from : (ranks : List ℕ) (x y : ℕ) → y < x → get_or ranks y 0 ≡ 1 → sources_below ranks x y ≡ true
sources_below_from ranks x y l e = and_from (ltb y x) (placed_below ranks 2 y) (lt-ltb y x l) (placed_below_from ranks 2 y (omega arith) (omega arith))

sources_below_parts : (ranks : List ℕ) (x y : ℕ) → sources_below ranks x y ≡ true → (y < x) × (get_or ranks y 0 ≡ 1)
sources_below_parts ranks x y s =
    let w = and_parts (ltb y x) (placed_below ranks 2 y) s in
    let r = placed_below_parts ranks 2 y w.1 in
    let low = r.0 in
    let high = r.1 in
    (ltb-true y x w.0, omega arith)

also_from : (visited : ℕ → Bool) (x y : ℕ) → (visited y ≡ true) ⊎ (y ≡ x) → also visited x y ≡ true
also_from visited x y h = elim h [
  | inl was ↦ or_left (visited y) (eqb y x) was
  | inr is ↦ or_right (visited y) (eqb y x) (eq-eqb y x is)
]

also_cases : (visited : ℕ → Bool) (x y : ℕ) → also visited x y ≡ true → (visited y ≡ true) ⊎ (y ≡ x)
also_cases visited x y s = elim (or_cases (visited y) (eqb y x) s) [
  | inl was ↦ inl was
  | inr is ↦ inr (eqb-true y x is)
]

-- the visit of an input or cell
pub source_visited : (n : Netlist) → IsNumbered n → (p q : Placing) (x : ℕ) → get_or p.ranks.items x 0 ≡ 1 → Counts (readers_of n x) p q
    → IsCounted n (sources_below p.ranks.items x) [] p → IsCounted n (sources_below q.ranks.items (x + 1)) [] q
source_visited n numbered p q x one visit h =
    let was : ℕ → Bool = sources_below p.ranks.items x in
    let fresh : sources_below p.ranks.items x x ≡ false = and_left (ltb x x) (placed_below p.ranks.items 2 x) (le-ltb x x (omega arith)) in
    let begun = visit_begins n numbered (sources_below p.ranks.items x) x p fresh (omega arith) h in
    let done = visit.counted n (also (sources_below p.ranks.items x) x) [] numbered begun in
    let there : (y : ℕ) → also (sources_below p.ranks.items x) x y ≡ true → sources_below q.ranks.items (x + 1) y ≡ true =
    λ y s. elim (also_cases (sources_below p.ranks.items x) x y s) [
      | inl old ↦
          let w = sources_below_parts p.ranks.items x y old in
          let low = w.0 in
          let rank = w.1 in
          let stay = visit.grow.stay y (omega arith) in
          sources_below_from q.ranks.items (x + 1) y (omega arith) (omega arith)
      | inr is ↦
          let rank : get_or p.ranks.items y 0 ≡ get_or p.ranks.items x 0 = ap (λ i. get_or p.ranks.items i 0) is in
          let stay = visit.grow.stay y (omega arith) in
          sources_below_from q.ranks.items (x + 1) y (omega arith) (omega arith)
    ] in
    let back : (y : ℕ) → sources_below q.ranks.items (x + 1) y ≡ true → also (sources_below p.ranks.items x) x y ≡ true =
    λ y s.
    let w = sources_below_parts q.ranks.items (x + 1) y s in
    let low = w.0 in
    let rank = w.1 in
    let before : get_or p.ranks.items y 0 ≡ 1 = elim (cases_lt 0 (get_or p.ranks.items y 0)) [
      | inl l ↦ let stay = visit.grow.stay y l in omega arith
      | inr l ↦ elim (visit.grow.new y (omega arith)) [
        | inl zero' ↦ absurd (omega arith)
        | inr late ↦ absurd (omega arith)
      ]
    ] in
    also_from (sources_below p.ranks.items x) x y (elim (cases_eq y x) [
      | inl is ↦ inr is
      | inr differs ↦ inl (sources_below_from p.ranks.items x y (omega arith) before)
    ]) in
    visited_agree n (also (sources_below p.ranks.items x) x) (sources_below q.ranks.items (x + 1)) [] q
    (λ y. same_test (also (sources_below p.ranks.items x) x y) (sources_below q.ranks.items (x + 1) y) (there y) (back y)) done

-- a gate is no source
pub source_passed : (n : Netlist) (p : Placing) (x : ℕ) → (get_or p.ranks.items x 0 ≡ 1 → ⊥)
    → IsCounted n (sources_below p.ranks.items x) [] p → IsCounted n (sources_below p.ranks.items (x + 1)) [] p
source_passed n p x gate h =
    visited_agree n (sources_below p.ranks.items x) (sources_below p.ranks.items (x + 1)) [] p
    (λ y. same_test (sources_below p.ranks.items x y) (sources_below p.ranks.items (x + 1) y)
    (λ s. let w = sources_below_parts p.ranks.items x y s in let low = w.0 in sources_below_from p.ranks.items (x + 1) y (omega arith) w.1)
    (λ s.
    let w = sources_below_parts p.ranks.items (x + 1) y s in
    let low = w.0 in
    let rank = w.1 in
    let differs : y ≡ x → ⊥ = λ is. gate (sym (ap (λ i. get_or p.ranks.items i 0) is) ∙ rank) in
    sources_below_from p.ranks.items x y (omega arith) rank)) h

pub all_sources : (n : Netlist) (p : Placing) (m : ℕ) → m ≡ length p.ranks.items
    → IsCounted n (sources_below p.ranks.items m) [] p → IsCounted n (placed_below p.ranks.items 2) [] p
all_sources n p m size h =
    visited_agree n (sources_below p.ranks.items m) (placed_below p.ranks.items 2) [] p
    (λ y. same_test (sources_below p.ranks.items m y) (placed_below p.ranks.items 2 y)
    (λ s. (and_parts (ltb y m) (placed_below p.ranks.items 2 y) s).1)
    (λ s.
    let w = placed_below_parts p.ranks.items 2 y s in
    let low = w.0 in
    let high = w.1 in
    let within : y < m = elim (cases_lt y m) [
      | inl l ↦ l
      | inr past ↦ let none = get_or_past p.ranks.items y 0 (omega arith) in absurd (omega arith)
    ] in
    sources_below_from p.ranks.items m y within (omega arith))) h

-- the visit of the gate at a place in the order
pub gate_visited : (n : Netlist) → IsNumbered n → (p q : Placing) (c : ℕ) → c < length p.order.items → Counts (readers_of n (get_or p.order.items c 0)) p q
    → IsCounted n (placed_below p.ranks.items (c + 2)) [] p → IsCounted n (placed_below q.ranks.items (c + 1 + 2)) [] q
gate_visited n numbered p q c within visit h =
    let x : ℕ = get_or p.order.items c 0 in
    let rank : get_or p.ranks.items (get_or p.order.items c 0) 0 ≡ c + 2 = h.placed.ranked c within in
    let fresh : placed_below p.ranks.items (c + 2) (get_or p.order.items c 0) ≡ false =
    elim (cases_Bool (placed_below p.ranks.items (c + 2) (get_or p.order.items c 0))) [
      | inl was ↦ let w = (placed_below_parts p.ranks.items (c + 2) (get_or p.order.items c 0) was).1 in absurd (omega arith)
      | inr fresh ↦ fresh
    ] in
    let begun = visit_begins n numbered (placed_below p.ranks.items (c + 2)) (get_or p.order.items c 0) p fresh (omega arith) h in
    let done = visit.counted n (also (placed_below p.ranks.items (c + 2)) (get_or p.order.items c 0)) [] numbered begun in
    let there : (y : ℕ) → also (placed_below p.ranks.items (c + 2)) (get_or p.order.items c 0) y ≡ true → placed_below q.ranks.items (c + 1 + 2) y ≡ true =
    λ y s. elim (also_cases (placed_below p.ranks.items (c + 2)) (get_or p.order.items c 0) y s) [
      | inl old ↦
          let w = placed_below_parts p.ranks.items (c + 2) y old in
          let low = w.0 in
          let high = w.1 in
          let stay = visit.grow.stay y low in
          placed_below_from q.ranks.items (c + 1 + 2) y (omega arith) (omega arith)
      | inr is ↦
          let same : get_or p.ranks.items y 0 ≡ get_or p.ranks.items (get_or p.order.items c 0) 0 = ap (λ i. get_or p.ranks.items i 0) is in
          let stay = visit.grow.stay y (omega arith) in
          placed_below_from q.ranks.items (c + 1 + 2) y (omega arith) (omega arith)
    ] in
    let back : (y : ℕ) → placed_below q.ranks.items (c + 1 + 2) y ≡ true → also (placed_below p.ranks.items (c + 2)) (get_or p.order.items c 0) y ≡ true =
    λ y s.
    let w = placed_below_parts q.ranks.items (c + 1 + 2) y s in
    let low = w.0 in
    let high = w.1 in
    also_from (placed_below p.ranks.items (c + 2)) (get_or p.order.items c 0) y (elim (cases_lt 0 (get_or p.ranks.items y 0)) [
      | inl l ↦
          let stay = visit.grow.stay y l in
          elim (cases_lt (get_or p.ranks.items y 0) (c + 2)) [
            | inl before ↦ inl (placed_below_from p.ranks.items (c + 2) y l before)
            | inr last ↦ inr (ranked_at n numbered p.order.items p.ranks.items h.placed y c (omega arith))
          ]
      | inr l ↦ elim (visit.grow.new y (omega arith)) [
        | inl zero' ↦ absurd (omega arith)
        | inr late ↦ absurd (omega arith)
      ]
    ]) in
    visited_agree n (also (placed_below p.ranks.items (c + 2)) (get_or p.order.items c 0)) (placed_below q.ranks.items (c + 1 + 2)) [] q
    (λ y. same_test (also (placed_below p.ranks.items (c + 2)) (get_or p.order.items c 0) y) (placed_below q.ranks.items (c + 1 + 2) y) (there y) (back y)) done

-- where all that is placed is visited, no more can be placed
pub all_visited : (n : Netlist) (p : Placing) (c : ℕ) → length p.order.items ≤ c → IsCounted n (placed_below p.ranks.items (c + 2)) [] p
    → IsSorted n p.order.items p.ranks.items
all_visited n p c end h = record {
  placed = h.placed;
  seen = λ d g. elim (cases_lt 0 (get_or p.ranks.items d.id 0)) [
    | inl l ↦ inl l
    | inr l ↦
        let none : get_or p.ranks.items d.id 0 ≡ 0 = omega arith in
        let count : get_or p.counts.items d.id 0 ≡ unvisited (placed_below p.ranks.items (c + 2)) d.pins + 0 = h.counted d g none in
        let some = h.waits d g none in
        let w = some_unvisited (placed_below p.ranks.items (c + 2)) d.pins (omega arith) in
        inr (
          w.0,
          w.1,
          elim (and_cases (ltb 0 (get_or p.ranks.items w.0 0)) (ltb (get_or p.ranks.items w.0 0) (c + 2)) w.2) [
            | inl low ↦ let m = ltb-false 0 (get_or p.ranks.items w.0 0) low in omega arith
            | inr high ↦ let m = ltb-false (get_or p.ranks.items w.0 0) (c + 2) high in let b = h.placed.bounded w.0 in absurd (omega arith)
          ],
        )
  ];
}

-- the counts before anything is visited
start_count : (n : Netlist) → IsNumbered n → (d : Definition) → Contains n.definitions d → get_or (start_counts n) d.id 0 ≡ length d.pins
start_count n numbered d c =
    let f : Definition → ℕ = λ e. length e.pins in
    let none : List ℕ = map (λ (x : ℕ). 0) n.inputs in
    let m : length none ≡ length n.inputs = length-map {B = ℕ} n.inputs (λ (x : ℕ). 0) in
    let at : d.id ≡ length none + c.0 = sym (ap (λ (e : Definition). e.id) c.2) ∙ (id_at n numbered c.0 d c.1 ∙ ap (λ k. k + c.0) (sym m)) in
    ap (λ k. get_or (start_counts n) k 0) at
    ∙ (get_or-append-add none (map f n.definitions) c.0 0
    ∙ (get_or-map f n.definitions c.0 d 0 c.1 ∙ ap f c.2))

start_counts_size : (n : Netlist) → length (start_counts n) ≡ length (signals n)
start_counts_size n =
    let none : List ℕ = map (λ (x : ℕ). 0) n.inputs in
    let a = length-append none (map (λ (d : Definition). length d.pins) n.definitions) in
    let b : length none ≡ length n.inputs = length-map {B = ℕ} n.inputs (λ (x : ℕ). 0) in
    let c = length-map n.definitions (λ (d : Definition). length d.pins) in
    let d = signals_length n in
    omega arith

module _ (n : Netlist) (p : Placing) (order : p.order.items ≡ []) (ranks : p.ranks.items ≡ start_ranks n) (counts : p.counts.items ≡ start_counts n) where
  pub start_room : IsNumbered n → length (signals n) ≤ 8000000 → HasRoom p
  start_room numbered small =
      let size = (start_placed n numbered).size in
      let a : length p.ranks.items ≡ length (start_ranks n) = ap (λ (xs : List ℕ). length xs) ranks in
      let b : length p.counts.items ≡ length (start_counts n) = ap (λ (xs : List ℕ). length xs) counts in
      let c = start_counts_size n in
      let d : length p.order.items ≡ 0 = ap (λ (xs : List ℕ). length xs) order in
      let e : zeros p.ranks.items ≤ length p.ranks.items = zeros-le p.ranks.items in
      record { counts = omega arith; left = omega arith; small = omega arith }

  pub started : IsNumbered n → IsStarted n 0 p
  started numbered = record {
    placed = subst (λ (o : List ℕ). IsPlaced n o p.ranks.items) (sym order) (subst (λ (r : List ℕ). IsPlaced n [] r) (sym ranks) (start_placed n numbered));
    counted = λ d g e. ap (λ (xs : List ℕ). get_or xs d.id 0) counts ∙ start_count n numbered d (gate_defined n numbered d g);
    waits = λ d g l e. absurd (omega arith);
  }

-- the signal of a gate in the order
pub gate_below : (n : Netlist) → IsNumbered n → (order ranks : List ℕ) → IsPlaced n order ranks → (c x : ℕ) → slice_get order c ≡ Some x
    → (c < length order) × (x ≡ get_or order c 0) × (x < length (signals n))
gate_below n numbered order ranks h c x e =
    let l = slice_get_within order c x e in
    let is : x ≡ get_or order c 0 = sym (get_or_from_slice_get order c x 0 e) in
    let w = h.gates c l in
    (l, is, subst (λ i. i < length (signals n)) (w.2 ∙ sym is) (definition_below n numbered w.0 (gate_defined n numbered w.0 w.1)))
