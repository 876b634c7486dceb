-- Where the fault has an effect the two values may differ, and without a fault none may.
use Rattle.std.proofs.Common.{◌≡◌, ◌<◌, ◌+◌, ◌⊎◌, ℕ, Bool, true, false, not, cond, ◌&&◌, ◌||◌, List, [], ◌∷◌, map, length, get_or, Option, Some, None, refl, sym, ◌∙◌, ap, subst, inl, inr}
use Rattle.std.specs.List.{All, Contains, list_any}
use Rattle.std.proofs.lemmas.Bool.{both_ways}
use Rattle.std.proofs.lemmas.List.Elements.{All-head, All-tail, All-contains}
use Rattle.statement.specs.declared.kinds.Tri.{Tri}
use Rattle.statement.specs.declared.kinds.Tri.TheVariants.{Zero, One, X}
use Rattle.statement.specs.declared.lines.Line.{Line}
use Rattle.statement.specs.declared.lines.Line.TheVariants.{Stem}
use Rattle.statement.specs.declared.lines.Fault.{Fault}
use Rattle.netlist.specs.Conditions.{IsSound}
use Rattle.statement.specs.Patterns.{Holds}
use Rattle.statement.specs.Netlists.{Definition, Netlist, cells, gates, signals}
use Rattle.statement.specs.Values.{is_line, on_pins, pins_of, known}
use Rattle.netlist.specs.ThreeValues.{is_zero, is_one}
use Rattle.netlist.proofs.Acyclic.{everywhere}
use Rattle.netlist.proofs.Lists.{All-from_contains}
use Rattle.netlist.proofs.Placed.{signal_cases}
use Rattle.tri.specs.declared.labels.Label.{Label}
use Rattle.tri.specs.Gates.{gate_tri}
use Rattle.tri.specs.Labels.{Decisions, is_known_as, are_known_and_equal, on_line, good_of, label_of, labels, source_label, held_value, AreLabels}
use Rattle.tri.specs.Paths.{has_effect}
use Rattle.tri.proofs.LabelLemmas.{mapped_zip}

no_effect : {A : Type 0} → false ≡ true → A
no_effect e = absurd (both_ways false refl e)

-- on a stem that isn't stuck
values_differ : (differs : Bool) (good faulty : Tri) → (is_zero good && is_one (cond differs faulty good) || is_one good && is_zero (cond differs faulty good)) ≡ true
    → (differs && not (are_known_and_equal good faulty)) ≡ true
values_differ false Zero faulty e = no_effect e
values_differ false One faulty e = no_effect e
values_differ false X faulty e = no_effect e
values_differ true Zero Zero e = no_effect e
values_differ true Zero One e = refl
values_differ true Zero X e = no_effect e
values_differ true One Zero e = refl
values_differ true One One e = no_effect e
values_differ true One X e = no_effect e
values_differ true X faulty e = no_effect e

-- and on one that is
stuck_differs : (bit : Bool) (good : Tri) → (is_zero good && is_one (known bit) || is_one good && is_zero (known bit)) ≡ true → not (is_known_as bit good) ≡ true
stuck_differs true Zero e = refl
stuck_differs true One e = no_effect e
stuck_differs true X e = no_effect e
stuck_differs false Zero e = no_effect e
stuck_differs false One e = refl
stuck_differs false X e = no_effect e

on_line_differs : (f : Fault) (line : Line) (l : Label) → (has_effect l ≡ true → l.may_differ ≡ true) → has_effect (on_line (Some f) line l) ≡ true → (on_line (Some f) line l).may_differ ≡ true
on_line_differs f line l h = at_case (is_line f.line line) where
  at_case : (c : Bool) → has_effect (cond c (record { own = l.own; good = l.good; faulty = known f.value; may_differ = not (is_known_as f.value l.good) }) l) ≡ true
      → (cond c (record { own = l.own; good = l.good; faulty = known f.value; may_differ = not (is_known_as f.value l.good) }) l).may_differ ≡ true
  at_case true e = stuck_differs f.value l.good e
  at_case false e = h e

module _ (f : Fault) (path : Decisions) (n : Netlist) (holds : Holds) (sound : IsSound n) (l : ℕ → Label) (p : AreLabels (Some f) path n holds l) where
  at_stem : (x : ℕ) (own faulty : Tri) (differs : Bool) → l x ≡ on_line (Some f) (Stem x) (label_of (path x) own faulty differs) → has_effect (l x) ≡ true → (l x).may_differ ≡ true
  at_stem x own faulty differs is = subst (λ (k : Label). has_effect k ≡ true → k.may_differ ≡ true) (sym is)
      (on_line_differs f (Stem x) (label_of (path x) own faulty differs) (values_differ differs (good_of (path x) own) faulty))

  -- where a signal's values are known and differ, it may differ
  pub effect_differs : (x : ℕ) → x < length (signals n) → has_effect (l x) ≡ true → (l x).may_differ ≡ true
  effect_differs x low = elim (signal_cases n sound.formed.numbered x low) [
    | inl i ↦
        let own : ℕ → Tri = λ y. held_value (get_or holds y None) in
        at_stem x (own x) X false
        (All-contains (λ y. l y ≡ on_line (Some f) (Stem y) (source_label path y (own y))) n.inputs x (mapped_zip (λ y v. l y ≡ on_line (Some f) (Stem y) v) (λ y. source_label path y (own y)) n.inputs p.0) i)
    | inr r ↦ elim r [
      | inl c ↦
          let is : l c.0.id ≡ on_line (Some f) (Stem c.0.id) (source_label path c.0.id X) =
          All-contains (λ (d : Definition). l d.id ≡ on_line (Some f) (Stem d.id) (source_label path d.id X)) (cells n) c.0
          (mapped_zip (λ (d : Definition) v. l d.id ≡ on_line (Some f) (Stem d.id) v) (λ (d : Definition). source_label path d.id X) (cells n) p.1) c.1 in
          subst (λ y. has_effect (l y) ≡ true → (l y).may_differ ≡ true) c.2 (at_stem c.0.id X X false is)
      | inr g ↦
          let ls : List Label = pins_of (labels (Some f) path) l g.0 in
          let is : l g.0.id ≡ on_line (Some f) (Stem g.0.id) ((labels (Some f) path).gate g.0 ls) =
          All-contains (λ (d : Definition). l d.id ≡ on_line (Some f) (Stem d.id) ((labels (Some f) path).gate d (pins_of (labels (Some f) path) l d))) (gates n) g.0 p.2 g.1 in
          subst (λ y. has_effect (l y) ≡ true → (l y).may_differ ≡ true) g.2
          (at_stem g.0.id (gate_tri g.0.kind (map (λ (k : Label). k.good) ls)) (gate_tri g.0.kind (map (λ (k : Label). k.faulty) ls)) (list_any (λ (k : Label). k.may_differ) ls) is)
    ]
  ]

-- ---- without a fault

not_true : (b : Bool) → not b ≡ true → b ≡ false
not_true true e = absurd (both_ways false refl e)
not_true false e = refl

module _ (path : Decisions) (n : Netlist) (holds : Holds) (sound : IsSound n) (l : ℕ → Label) (p : AreLabels None path n holds l) where
  same : ℕ → Bool
  same x = not (l x).may_differ

  pins_same : (z k : ℕ) (xs : List ℕ) → All (λ x. not (l x).may_differ ≡ true) xs → list_any (λ (m : Label). m.may_differ) (on_pins (labels None path) z k (map l xs)) ≡ false
  pins_same z k [] h = refl
  pins_same z k (x ∷ xs) h =
      ap (λ b. b || list_any (λ (m : Label). m.may_differ) (on_pins (labels None path) z (k + 1) (map l xs))) (not_true (l x).may_differ (All-head (λ y. not (l y).may_differ ≡ true) x xs h))
      ∙ pins_same z (k + 1) xs (All-tail (λ y. not (l y).may_differ ≡ true) x xs h)

  at_inputs : All (λ x. same x ≡ true) n.inputs
  unfolding same
  at_inputs =
      let own : ℕ → Tri = λ y. held_value (get_or holds y None) in
      All-from_contains (λ x. same x ≡ true) n.inputs (λ x c. ap (λ (k : Label). not k.may_differ)
      (All-contains (λ y. l y ≡ source_label path y (own y)) n.inputs x (mapped_zip (λ y v. l y ≡ v) (λ y. source_label path y (own y)) n.inputs p.0) c))

  at_cells : All (λ (d : Definition). same d.id ≡ true) (cells n)
  unfolding same
  at_cells = All-from_contains (λ (d : Definition). same d.id ≡ true) (cells n) (λ d c. ap (λ (k : Label). not k.may_differ)
      (All-contains (λ (e : Definition). l e.id ≡ source_label path e.id X) (cells n) d (mapped_zip (λ (e : Definition) v. l e.id ≡ v) (λ (e : Definition). source_label path e.id X) (cells n) p.1) c))

  at_gate : (d : Definition) → Contains (gates n) d → All (λ x. same x ≡ true) d.pins → same d.id ≡ true
  unfolding same
  at_gate d c h =
      let ls : List Label = pins_of (labels None path) l d in
      let is : l d.id ≡ (labels None path).gate d ls =
      All-contains (λ (e : Definition). l e.id ≡ (labels None path).gate e (pins_of (labels None path) l e)) (gates n) d p.2 c in
      let good : Tri = gate_tri d.kind (map (λ (k : Label). k.good) ls) in
      let faulty : Tri = gate_tri d.kind (map (λ (k : Label). k.faulty) ls) in
      ap (λ (k : Label). not k.may_differ) is ∙ ap (λ b. not (b && not (are_known_and_equal (good_of (path d.id) good) faulty))) (pins_same d.id 0 d.pins h)

  -- no signal may differ
  pub none_differs : (x : ℕ) → Contains (signals n) x → (l x).may_differ ≡ false
  unfolding same
  none_differs x c = not_true (l x).may_differ (everywhere n same sound.closed at_inputs at_cells at_gate sound.acyclic x c)
