-- Every acyclic netlist has an order in which each gate comes after the gates that it reads.
use Rattle.std.proofs.Common.{◌≡◌, ℕ, suc, zero, ◌+◌, ◌<◌, ◌≤◌, ◌⊎◌, true, List, [], ◌∷◌, ◌++◌, length, get_or, set, sym, subst, inl, inr, arith, ltb}
use Rattle.std.specs.List.{Contains}
use Rattle.std.proofs.lemmas.Bool.{cases_lt, ltb-true, ltb-false}
use Rattle.std.proofs.lemmas.List.Elements.{All-contains}
use Rattle.statement.specs.Netlists.{Definition, Netlist, gates}
use Rattle.netlist.specs.Netlist.{IsAcyclic}
use Rattle.netlist.specs.Conditions.{IsNumbered, IsClosed}
use Rattle.netlist.specs.inner.Placed.{zeros, IsPlaced, IsSeen, IsSorted, start_ranks}
use Rattle.netlist.specs.Orders.{IsOrder}
use Rattle.netlist.proofs.Lists.{all_or_fails, contains_nil, contains_head, contains_tail, contains_cases}
use Rattle.netlist.proofs.Orders.{order_of}
use Rattle.netlist.proofs.Placed.{zeros_set, definition_below, gate_defined, placed_more, on_loop, start_placed}

-- all pins have a rank, or one has none
all_ranked : (ranks pins : List ℕ) → ((x : ℕ) → Contains pins x → 0 < get_or ranks x 0) ⊎ ((x : ℕ) × Contains pins x × (get_or ranks x 0 ≡ 0))
all_ranked ranks pins = elim (all_or_fails (λ x. ltb 0 (get_or ranks x 0)) pins) [
  | inl all ↦ inl (λ x c. ltb-true 0 (get_or ranks x 0) (All-contains (λ y. ltb 0 (get_or ranks y 0) ≡ true) pins x all c))
  | inr w ↦ let none = ltb-false 0 (get_or ranks w.0 0) w.2 in inr (w.0, w.1, omega arith)
]

-- a gate that can be placed
abbrev IsReady : List ℕ → Definition → Type 0
IsReady ranks d = (get_or ranks d.id 0 ≡ 0) × ((x : ℕ) → Contains d.pins x → 0 < get_or ranks x 0)

seen_or_ready : (ranks : List ℕ) (d : Definition) → IsSeen ranks d ⊎ IsReady ranks d
seen_or_ready ranks d = elim (cases_lt 0 (get_or ranks d.id 0)) [
  | inl ranked ↦ inl (inl ranked)
  | inr none ↦ elim (all_ranked ranks d.pins) [
    | inl all ↦ inr (omega arith, all)
    | inr w ↦ inl (inr w)
  ]
]

-- each is seen, or one can be placed
each_or_one : {X : Type 0} (P Q : X → Type 0) → ((x : X) → P x ⊎ Q x) → (xs : List X) → ((x : X) → Contains xs x → P x) ⊎ ((x : X) × Contains xs x × Q x)
each_or_one P Q test [] = inl (λ x c. absurd (contains_nil x c))
each_or_one P Q test (x ∷ xs) = elim (test x) [
  | inr q ↦ inr (x, contains_head x xs, q)
  | inl p ↦ elim (each_or_one P Q test xs) [
    | inr w ↦ inr (w.0, contains_tail x w.0 xs w.1, w.2)
    | inl all ↦ inl (λ y c. elim (contains_cases x y xs c) [
      | inl same ↦ subst P same p
      | inr r ↦ all y r
    ])
  ]
]

module _ (n : Netlist) (numbered : IsNumbered n) (closed : IsClosed n) where
  -- one rank fewer is missing where a gate is placed
  fewer : (order ranks : List ℕ) → IsPlaced n order ranks → (d : Definition) → Contains (gates n) d → get_or ranks d.id 0 ≡ 0
      → zeros (set ranks d.id (length order + 2)) + 1 ≡ zeros ranks
  fewer order ranks h d g none =
      zeros_set ranks d.id (length order + 2) (subst (λ m. d.id < m) (sym h.size) (definition_below n numbered d (gate_defined n numbered d g))) none (omega arith)

  -- gates are placed until no more can be
  sorted_from : (missing : ℕ) (order ranks : List ℕ) → IsPlaced n order ranks → zeros ranks ≤ missing → (o : List ℕ) × (r : List ℕ) × IsSorted n o r
  sorted_from zero order ranks h l = elim (each_or_one (IsSeen ranks) (IsReady ranks) (seen_or_ready ranks) (gates n)) [
    | inl all ↦ (order, ranks, record { placed = h; seen = all })
    | inr w ↦ let e = fewer order ranks h w.0 w.1 w.2.0 in absurd (omega arith)
  ]
  sorted_from (suc missing) order ranks h l = elim (each_or_one (IsSeen ranks) (IsReady ranks) (seen_or_ready ranks) (gates n)) [
    | inl all ↦ (order, ranks, record { placed = h; seen = all })
    | inr w ↦
        let e = fewer order ranks h w.0 w.1 w.2.0 in
        sorted_from missing (order ++ w.0.id ∷ []) (set ranks w.0.id (length order + 2))
        (placed_more n numbered order ranks w.0 h w.1 w.2.0 w.2.1) (omega arith)
  ]

  -- where there is no loop, every gate is placed
  sorted_order : IsAcyclic n → (order ranks : List ℕ) → IsSorted n order ranks → IsOrder n order
  sorted_order acyclic order ranks h = order_of n numbered order ranks h.placed (λ d g. elim (cases_lt 0 (get_or ranks d.id 0)) [
    | inl ranked ↦ ranked
    | inr none ↦ absurd (acyclic d.id (on_loop n numbered order ranks closed h d.id
        (subst (λ m. d.id < m) (sym h.placed.size) (definition_below n numbered d (gate_defined n numbered d g))) (omega arith)))
  ])

  pub order_exists : IsAcyclic n → (order : List ℕ) × IsOrder n order
  order_exists acyclic =
      let w = sorted_from (zeros (start_ranks n)) [] (start_ranks n) (start_placed n numbered) (omega arith) in
      (w.0, sorted_order acyclic w.0 w.1 w.2)
