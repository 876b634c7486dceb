-- Induction along the gates of an acyclic netlist, and what follows from it.
use Rattle.std.proofs.Common.{◌≡◌, ℕ, Bool, true, false, not, ◌&&◌, map, sym, ◌∙◌, ap, inl, inr, eqb}
use Rattle.std.specs.List.{All, Contains, list_any}
use Rattle.std.proofs.lemmas.Bool.{both_ways, and_parts, and_from, eqb-true, eq-eqb, not_from_false, not-true, cases_Bool}
use Rattle.std.proofs.lemmas.List.Elements.{All-contains, Contains-append_cases}
use Rattle.statement.specs.Netlists.{Definition, Netlist, is_cell, cells, gates, signals}
use Rattle.netlist.specs.Netlist.{is_gate, IsLoop, IsAcyclic}
use Rattle.netlist.specs.Conditions.{IsClosed}
use Rattle.netlist.proofs.Lists.{contains_map, any_true, any_from, all_or_fails, filter_contains, contains_filter}

module _ (n : Netlist) (holds : ℕ → Bool) (closed : IsClosed n)
    (at_inputs : All (λ x. holds x ≡ true) n.inputs)
    (at_cells : All (λ (d : Definition). holds d.id ≡ true) (cells n))
    (at_gates : (d : Definition) → Contains (gates n) d → All (λ x. holds x ≡ true) d.pins → holds d.id ≡ true) where
  -- the gates at which it fails
  failing : ℕ → Bool
  failing z = list_any (λ (d : Definition). eqb d.id z && not (holds z)) (gates n)

  fails_at : (x : ℕ) → Contains (signals n) x → holds x ≡ false → failing x ≡ true
  unfolding failing
  fails_at x c f = elim (Contains-append_cases n.inputs (map (λ (d : Definition). d.id) n.definitions) x c) [
    | inl i ↦ absurd (both_ways (holds x) f (All-contains (λ y. holds y ≡ true) n.inputs x at_inputs i))
    | inr r ↦
        let m = contains_map (λ (d : Definition). d.id) n.definitions x r in
        elim (cases_Bool (is_cell m.0)) [
          | inl y ↦
              let at = All-contains (λ (d : Definition). holds d.id ≡ true) (cells n) m.0 at_cells (filter_contains is_cell n.definitions m.0 m.1 y) in
              absurd (both_ways (holds x) f (sym (ap holds m.2) ∙ at))
          | inr y ↦
              any_from (λ (d : Definition). eqb d.id x && not (holds x)) (gates n) m.0
              (filter_contains is_gate n.definitions m.0 m.1 (not_from_false (is_cell m.0) y))
              (and_from (eqb m.0.id x) (not (holds x)) (eq-eqb m.0.id x m.2) (not_from_false (holds x) f))
        ]
  ]

  failing_loop : IsLoop n failing
  unfolding failing
  failing_loop z f =
      let m = any_true (λ (d : Definition). eqb d.id z && not (holds z)) (gates n) f in
      let p = and_parts (eqb m.0.id z) (not (holds z)) m.2 in
      let same = eqb-true m.0.id z p.0 in
      let defined = contains_filter is_gate n.definitions m.0 m.1 in
      let pins : All (Contains (signals n)) m.0.pins =
      All-contains (λ (d : Definition). All (Contains (signals n)) d.pins) n.definitions m.0 closed.pins defined.0 in
      elim (all_or_fails holds m.0.pins) [
        | inl h ↦ absurd (both_ways (holds z) (not-true (holds z) p.1) (sym (ap holds same) ∙ at_gates m.0 m.1 h))
        | inr w ↦ (w.0, (m.0, m.1, same, w.1), fails_at w.0 (All-contains (Contains (signals n)) m.0.pins w.0 pins w.1) w.2)
      ]

  pub everywhere : IsAcyclic n → (x : ℕ) → Contains (signals n) x → holds x ≡ true
  everywhere acyclic x c = elim (cases_Bool (holds x)) [
    | inl y ↦ y
    | inr f ↦ absurd (acyclic x (failing, failing_loop, fails_at x c f))
  ]
