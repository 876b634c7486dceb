-- Sources: what their pins tell, and which of them may be decided.
use Rattle.std.proofs.Common.{◌≡◌, ℕ, ◌≤◌, ◌⊎◌, Bool, true, false, List, map, length, Option, Some, None, refl, sym, ◌∙◌, ap, subst, inl, inr, arith}
use Rattle.std.specs.Option.{is_none}
use Rattle.std.specs.List.{All, Contains, filter}
use Rattle.std.proofs.lemmas.List.{length-map, get_or-map, get_or_past}
use Rattle.std.proofs.lemmas.List.Elements.{All-contains, All-append, All-map, Contains-append_left, Contains-append_right, Contains-append_cases}
use Rattle.statement.specs.declared.kinds.Tri.TheVariants.{X}
use Rattle.statement.specs.declared.lines.Fault.{Fault}
use Rattle.statement.specs.declared.lines.Line.TheVariants.{Stem}
use Rattle.statement.specs.Patterns.{Holds}
use Rattle.netlist.specs.Holds.{AreHoldsOf}
use Rattle.statement.specs.Netlists.{Definition, Netlist, is_cell, cells, signals}
use Rattle.netlist.specs.Conditions.{IsNumbered}
use Rattle.netlist.proofs.Lists.{contains_map, contains_filter, filter_contains, All-from_contains}
use Rattle.netlist.proofs.Settling.{above_inputs}
use Rattle.tri.specs.declared.labels.Label.{Label}
use Rattle.tri.specs.Labels.{Decisions, on_line, label_of, held_value, source_label, AreLabels}
use Rattle.tri.specs.Paths.{Path, decisions, IsUnknown}
use Rattle.tri.proofs.LabelLemmas.{mapped_zip}
use Rattle.pair_sim.proofs.Free.{own_on_line, free_undecided, own_if_undecided}
use Rattle.podem.specs.Sources.{all_sources, sources, held}

listed : (ds : List Definition) (d : Definition) → Contains ds d → Contains (map (λ (e : Definition). e.id) ds) d.id
listed ds d c = (c.0, omega (arith, c.1, length-map ds (λ (e : Definition). e.id)), get_or-map (λ (e : Definition). e.id) ds c.0 d d.id c.1 ∙ ap (λ (e : Definition). e.id) c.2)

pub cell_listed : (n : Netlist) (d : Definition) → Contains (cells n) d → Contains (map (λ (e : Definition). e.id) (cells n)) d.id
cell_listed n d c = listed (cells n) d c

-- ---- which signals are sources

module _ (n : Netlist) (numbered : IsNumbered n) where
  -- and so is what a flip-flop defines
  pub cell_is_source : (d : Definition) (x : ℕ) → Contains n.definitions d → d.id ≡ x → is_cell d ≡ true → Contains (all_sources n) x
  cell_is_source d x c is cell = subst (Contains (all_sources n)) is
      (Contains-append_right n.inputs (map (λ (e : Definition). e.id) (cells n)) d.id (cell_listed n d (filter_contains is_cell n.definitions d c cell)))

-- ---- sources are signals

pub inputs_signals : (n : Netlist) → All (Contains (signals n)) n.inputs
inputs_signals n = All-from_contains (Contains (signals n)) n.inputs (λ x c. Contains-append_left n.inputs (map (λ (d : Definition). d.id) n.definitions) x c)

pub cells_signals : (n : Netlist) → All (Contains (signals n)) (map (λ (d : Definition). d.id) (cells n))
cells_signals n = All-map (Contains (signals n)) (λ (d : Definition). d.id) (cells n)
    (All-from_contains (λ (d : Definition). Contains (signals n) d.id) (cells n)
    (λ d c. Contains-append_right n.inputs (map (λ (e : Definition). e.id) n.definitions) d.id (listed n.definitions d (contains_filter is_cell n.definitions d c).0)))

pub source_signal : (n : Netlist) (x : ℕ) → Contains (all_sources n) x → Contains (signals n) x
source_signal n x c = All-contains (Contains (signals n)) (all_sources n) x
    (All-append (Contains (signals n)) n.inputs (map (λ (d : Definition). d.id) (cells n)) (inputs_signals n) (cells_signals n)) c

-- ---- which of them may be decided

none_from : (o : Option Bool) → is_none o ≡ true → o ≡ None
none_from None e = refl
none_from (Some b) e = absurd cc

from_none : (o : Option Bool) → o ≡ None → is_none o ≡ true
from_none None e = refl
from_none (Some b) e = absurd cc

-- it is an input that isn't held, or a cell
pub source_cases : (n : Netlist) (holds : Holds) (x : ℕ) → Contains (sources n holds) x
    → (Contains n.inputs x × (held holds x ≡ None)) ⊎ Contains (map (λ (d : Definition). d.id) (cells n)) x
source_cases n holds x c = elim (Contains-append_cases (filter (λ y. is_none (held holds y)) n.inputs) (map (λ (d : Definition). d.id) (cells n)) x c) [
  | inl input ↦ let w = contains_filter (λ y. is_none (held holds y)) n.inputs x input in inl (w.0, none_from (held holds x) w.1)
  | inr cell ↦ inr cell
]

pub input_source : (n : Netlist) (holds : Holds) (x : ℕ) → Contains n.inputs x → held holds x ≡ None → Contains (sources n holds) x
input_source n holds x c e =
    Contains-append_left (filter (λ y. is_none (held holds y)) n.inputs) (map (λ (d : Definition). d.id) (cells n)) x
    (filter_contains (λ y. is_none (held holds y)) n.inputs x c (from_none (held holds x) e))

pub cell_source : (n : Netlist) (holds : Holds) (x : ℕ) → Contains (map (λ (d : Definition). d.id) (cells n)) x → Contains (sources n holds) x
cell_source n holds x c = Contains-append_right (filter (λ y. is_none (held holds y)) n.inputs) (map (λ (d : Definition). d.id) (cells n)) x c

pub any_source : (n : Netlist) (holds : Holds) (x : ℕ) → Contains (sources n holds) x → Contains (all_sources n) x
any_source n holds x c = elim (source_cases n holds x c) [
  | inl input ↦ Contains-append_left n.inputs (map (λ (d : Definition). d.id) (cells n)) x input.0
  | inr cell ↦ Contains-append_right n.inputs (map (λ (d : Definition). d.id) (cells n)) x cell
]

-- a cell comes behind the inputs
pub cell_behind : (n : Netlist) (x : ℕ) → IsNumbered n → Contains (map (λ (d : Definition). d.id) (cells n)) x → length n.inputs ≤ x
cell_behind n x numbered c =
    let m = contains_map (λ (d : Definition). d.id) (cells n) x c in
    let l = above_inputs n numbered m.0 (contains_filter is_cell n.definitions m.0 m.1).0 in
    let e = m.2 in
    omega arith

held_none : (o : Option Bool) → held_value o ≡ X → o ≡ None
held_none None e = refl
held_none (Some true) e = absurd cc
held_none (Some false) e = absurd cc

-- ---- labels of sources

module _ (f : Fault) (path : Decisions) (n : Netlist) (holds : Holds) (l : ℕ → Label) (are : AreLabels (Some f) path n holds l) where
  pub input_label : (x : ℕ) → Contains n.inputs x → l x ≡ on_line (Some f) (Stem x) (label_of (path x) (held_value (held holds x)) X false)
  input_label x c = All-contains (λ y. l y ≡ on_line (Some f) (Stem y) (source_label path y (held_value (held holds y)))) n.inputs x
      (mapped_zip (λ y v. l y ≡ on_line (Some f) (Stem y) v) (λ y. source_label path y (held_value (held holds y))) n.inputs are.0) c

  pub cell_label : (x : ℕ) → Contains (map (λ (d : Definition). d.id) (cells n)) x → l x ≡ on_line (Some f) (Stem x) (label_of (path x) X X false)
  cell_label x c =
      let P : ℕ → Type 0 = λ y. l y ≡ on_line (Some f) (Stem y) (source_label path y X) in
      All-contains P (map (λ (d : Definition). d.id) (cells n)) x
      (All-map P (λ (d : Definition). d.id) (cells n) (mapped_zip (λ (d : Definition) v. l d.id ≡ on_line (Some f) (Stem d.id) v) (λ (d : Definition). source_label path d.id X) (cells n) are.1)) c

  input_own : (x : ℕ) → Contains n.inputs x → (l x).own ≡ held_value (held holds x)
  input_own x c = ap (λ (m : Label). m.own) (input_label x c) ∙ own_on_line f (Stem x) (label_of (path x) (held_value (held holds x)) X false)

  cell_own : (x : ℕ) → Contains (map (λ (d : Definition). d.id) (cells n)) x → (l x).own ≡ X
  cell_own x c = ap (λ (m : Label). m.own) (cell_label x c) ∙ own_on_line f (Stem x) (label_of (path x) X X false)

  -- nothing tells the value of what may be decided
  pub source_own : (x : ℕ) → Contains (sources n holds) x → (l x).own ≡ X
  source_own x c = elim (source_cases n holds x c) [
    | inl input ↦ input_own x input.0 ∙ ap held_value input.1
    | inr cell ↦ cell_own x cell
  ]

  pub any_own : AreHoldsOf n holds → IsNumbered n → (x : ℕ) → Contains (all_sources n) x → (l x).own ≡ held_value (held holds x)
  any_own fit numbered x c = elim (Contains-append_cases n.inputs (map (λ (d : Definition). d.id) (cells n)) x c) [
    | inl input ↦ input_own x input
    | inr cell ↦ cell_own x cell ∙ ap held_value (sym (get_or_past holds x None (let b = cell_behind n x numbered cell in let e = fit in omega arith)))
  ]

-- a source that is X may be decided
pub free_is_source : (f : Fault) (n : Netlist) (holds : Holds) (path : Path) (x : ℕ) → Contains (all_sources n) x → IsUnknown f n holds path x → Contains (sources n holds) x
free_is_source f n holds path x c w = elim (Contains-append_cases n.inputs (map (λ (d : Definition). d.id) (cells n)) x c) [
  | inl input ↦
      let own : (w.label x).own ≡ X = own_if_undecided f (decisions path) n holds w.label w.are x w.signal (free_undecided f n holds path x w) ∙ w.unknown in
      input_source n holds x input (held_none (held holds x) (sym (input_own f (decisions path) n holds w.label w.are x input) ∙ own))
  | inr cell ↦ cell_source n holds x cell
]
