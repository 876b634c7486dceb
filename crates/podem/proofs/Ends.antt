-- Where every source is decided, and nothing else is, the search can't go on: all values are known.
use Rattle.std.proofs.Common.{◌≡◌, ℕ, ◌+◌, Bool, true, false, cond, List, [], ◌∷◌, map, Option, Some, None, refl, sym, ◌∙◌, ap, subst, inl, inr, arith}
use Rattle.std.specs.Option.{is_none}
use Rattle.std.specs.List.{All, Contains}
use Rattle.std.proofs.lemmas.Bool.{both_ways}
use Rattle.std.proofs.lemmas.List.Elements.{All-nil, All-cons, All-contains, Contains-append_left, Contains-append_right, Contains-append_cases}
use Rattle.statement.specs.declared.kinds.Tri.{Tri}
use Rattle.statement.specs.declared.kinds.Tri.TheVariants.{X}
use Rattle.statement.specs.declared.lines.Fault.{Fault}
use Rattle.statement.specs.Patterns.{Holds}
use Rattle.statement.specs.declared.lines.Line.TheVariants.{Stem}
use Rattle.statement.specs.Netlists.{Definition, Netlist, is_cell, cells, gates, signals}
use Rattle.netlist.specs.Conditions.{IsSound}
use Rattle.statement.specs.Values.{outs, next}
use Rattle.netlist.proofs.Acyclic.{everywhere}
use Rattle.netlist.proofs.Lists.{All-from_contains, contains_filter}
use Rattle.tri.specs.declared.labels.Label.{Label}
use Rattle.netlist.specs.ThreeValues.{is_x}
use Rattle.tri.specs.Labels.{good_of, held_value, label_of, labels, AreLabels}
use Rattle.tri.specs.Paths.{Path, decisions, IsGoingPath}
use Rattle.pair_sim.proofs.Sure.{is_sure, sure_source, sure_on_line, none_differs, sure_outs, sure_next, sure_gate}
use Rattle.decisions.specs.Turns.{undecided}
use Rattle.podem.specs.Sources.{all_sources, sources, held}
use Rattle.podem.proofs.Owns.{cell_listed, input_source, cell_source, input_label, cell_label}

decided_sure : (b : Bool) (own : Tri) → is_x (good_of (Some b) own) ≡ false
decided_sure true own = refl
decided_sure false own = refl

held_sure : (o : Option Bool) (b : Bool) → is_x (good_of o (held_value (Some b))) ≡ false
held_sure None true = refl
held_sure None false = refl
held_sure (Some true) b = refl
held_sure (Some false) b = refl

-- ---- everywhere

all_decided : (path : Path) (ids : List ℕ) → undecided path ids ≡ 0 → (x : ℕ) → Contains ids x → (b : Bool) × (decisions path x ≡ Some b)
all_decided path ids e x c = some_of (decisions path x) (here path ids e x c)
  where
    none_zero : (o : Option Bool) (k : ℕ) → cond (is_none o) 1 0 + k ≡ 0 → (is_none o ≡ false) × (k ≡ 0)
    none_zero None k z = absurd (omega arith)
    none_zero (Some b) k z = (refl, omega arith)

    each : (p : Path) (xs : List ℕ) → undecided p xs ≡ 0 → All (λ y. is_none (decisions p y) ≡ false) xs
    each p [] z = All-nil _
    each p (y ∷ ys) z =
        let both = none_zero (decisions p y) (undecided p ys) z in
        All-cons (λ w. is_none (decisions p w) ≡ false) y ys both.0 (each p ys both.1)

    here : (p : Path) (xs : List ℕ) → undecided p xs ≡ 0 → (y : ℕ) → Contains xs y → is_none (decisions p y) ≡ false
    here p xs z y m = All-contains (λ w. is_none (decisions p w) ≡ false) xs y (each p xs z) m

    some_of : (o : Option Bool) → is_none o ≡ false → (b : Bool) × (o ≡ Some b)
    some_of None z = absurd (both_ways true z refl)
    some_of (Some b) z = (b, refl)

module _ (f : Fault) (n : Netlist) (holds : Holds) (sound : IsSound n) (path : Path) (l : ℕ → Label) (r : AreLabels (Some f) (decisions path) n holds l)
    (all : undecided path (sources n holds) ≡ 0) (only : (x : ℕ) (b : Bool) → decisions path x ≡ Some b → Contains (sources n holds) x) where
  sure_at : ℕ → Bool
  sure_at x = is_sure (l x)

  -- a source that may be decided is, and the others are held
  source_known : (x : ℕ) (own : Tri) → Contains (sources n holds) x → is_x (good_of (decisions path x) own) ≡ false
  source_known x own c = let d = all_decided path (sources n holds) all x c in ap (λ (o : Option Bool). is_x (good_of o own)) d.1 ∙ decided_sure d.0 own

  input_known : (x : ℕ) → Contains n.inputs x → (o : Option Bool) → held holds x ≡ o → is_x (good_of (decisions path x) (held_value (held holds x))) ≡ false
  input_known x c None e = source_known x (held_value (held holds x)) (input_source n holds x c e)
  input_known x c (Some b) e = ap (λ (o : Option Bool). is_x (good_of (decisions path x) (held_value o))) e ∙ held_sure (decisions path x) b

  at_source : (x : ℕ) → Contains (all_sources n) x → sure_at x ≡ true
  unfolding sure_at
  at_source x c = elim (Contains-append_cases n.inputs (map (λ (d : Definition). d.id) (cells n)) x c) [
    | inl input ↦
        let own = held_value (held holds x) in
        subst (λ (k : Label). is_sure k ≡ true) (sym (input_label f (decisions path) n holds l r x input))
        (sure_on_line f (Stem x) (label_of (decisions path x) own X false) (sure_source (decisions path x) own (input_known x input (held holds x) refl)))
    | inr cell ↦
        subst (λ (k : Label). is_sure k ≡ true) (sym (cell_label f (decisions path) n holds l r x cell))
        (sure_on_line f (Stem x) (label_of (decisions path x) X X false) (sure_source (decisions path x) X (source_known x X (cell_source n holds x cell))))
  ]

  at_gate : (d : Definition) → Contains (gates n) d → All (λ x. sure_at x ≡ true) d.pins → sure_at d.id ≡ true
  unfolding sure_at
  at_gate = sure_gate f path n l holds r

  inputs_hold : All (λ x. sure_at x ≡ true) n.inputs
  inputs_hold = All-from_contains (λ x. sure_at x ≡ true) n.inputs (λ x c. at_source x (Contains-append_left n.inputs (map (λ (d : Definition). d.id) (cells n)) x c))

  cells_hold : All (λ (d : Definition). sure_at d.id ≡ true) (cells n)
  cells_hold = All-from_contains (λ (d : Definition). sure_at d.id ≡ true) (cells n)
      (λ d c. at_source d.id (Contains-append_right n.inputs (map (λ (e : Definition). e.id) (cells n)) d.id (cell_listed n d c)))

  sure_everywhere : (x : ℕ) → Contains (signals n) x → is_sure (l x) ≡ true
  unfolding sure_at
  sure_everywhere = everywhere n sure_at sound.closed inputs_hold cells_hold at_gate sound.acyclic

  outs_sure : All (λ (m : Label). is_sure m ≡ true) (outs (labels (Some f) (decisions path)) n l)
  outs_sure = sure_outs f path n l (λ x c. sure_everywhere x (All-contains (Contains (signals n)) n.outputs x sound.closed.outputs c))

  next_sure : All (λ (m : Label). is_sure m ≡ true) (next (labels (Some f) (decisions path)) n l)
  next_sure = sure_next f path n l (λ d c x p.
      let defined = (contains_filter is_cell n.definitions d c).0 in
      let within : All (Contains (signals n)) d.pins = All-contains (λ (e : Definition). All (Contains (signals n)) e.pins) n.definitions d sound.closed.pins defined in
      sure_everywhere x (All-contains (Contains (signals n)) d.pins x within p))

-- so the search has ended there
pub not_going : (f : Fault) (n : Netlist) (holds : Holds) → IsSound n → (path : Path) → undecided path (sources n holds) ≡ 0
    → ((x : ℕ) (b : Bool) → decisions path x ≡ Some b → Contains (sources n holds) x) → IsGoingPath f n holds path → ⊥
not_going f n holds sound path all only w =
    w.left_open (inr (record {
      outputs = none_differs (outs (labels (Some f) (decisions path)) n w.label) (outs_sure f n holds sound path w.label w.are all only) w.outputs;
      cells = none_differs (next (labels (Some f) (decisions path)) n w.label) (next_sure f n holds sound path w.label w.are all only) w.cells;
    }))
