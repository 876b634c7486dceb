-- The value of a signal without the fault is its decided bit, or else what its pins tell. So a signal that is X isn't decided.
use Rattle.std.proofs.Common.{◌≡◌, ℕ, Bool, true, false, not, cond, List, map, Option, Some, None, get_or, refl, sym, ◌∙◌, ap, subst, inl, inr}
use Rattle.std.specs.List.{Contains}
use Rattle.std.proofs.lemmas.Bool.{cases_Bool}
use Rattle.std.proofs.lemmas.List.Elements.{All-contains, Contains-append_cases}
use Rattle.statement.specs.declared.kinds.Tri.{Tri}
use Rattle.statement.specs.declared.kinds.Tri.TheVariants.{X}
use Rattle.statement.specs.declared.lines.Fault.{Fault}
use Rattle.statement.specs.declared.lines.Line.{Line}
use Rattle.statement.specs.declared.lines.Line.TheVariants.{Stem}
use Rattle.statement.specs.Patterns.{Holds}
use Rattle.statement.specs.Netlists.{Definition, Netlist, is_cell, cells, gates, signals}
use Rattle.netlist.specs.Netlist.{is_gate}
use Rattle.statement.specs.Values.{is_line, pins_of, known}
use Rattle.netlist.proofs.Lists.{contains_map, filter_contains}
use Rattle.tri.specs.declared.labels.Label.{Label}
use Rattle.tri.specs.Labels.{Decisions, is_known_as, on_line, good_of, held_value, source_label, labels, AreLabels}
use Rattle.tri.specs.Paths.{Path, decisions, IsUnknown}
use Rattle.tri.proofs.LabelLemmas.{mapped_zip}

-- the label has the value without the fault that its decision says
abbrev pub follows : Option Bool → Label → Type 0
follows o l = l.good ≡ good_of o l.own

on_line_follows : (f : Fault) (line : Line) (o : Option Bool) (l : Label) → follows o l → follows o (on_line (Some f) line l)
on_line_follows f line o l h =
    let step : (t : Bool) → follows o (cond t (record { own = l.own; good = l.good; faulty = known f.value; may_differ = not (is_known_as f.value l.good) }) l) = elim [ true ↦ h | false ↦ h ] in
    step (is_line f.line line)

-- a stuck line tells nothing of what comes onto it
pub own_on_line : (f : Fault) (line : Line) (l : Label) → (on_line (Some f) line l).own ≡ l.own
own_on_line f line l =
    let step : (t : Bool) → (cond t (record { own = l.own; good = l.good; faulty = known f.value; may_differ = not (is_known_as f.value l.good) }) l).own ≡ l.own = elim [ true ↦ refl | false ↦ refl ] in
    step (is_line f.line line)

pub good_is : (f : Fault) (path : Decisions) (n : Netlist) (holds : Holds) (l : ℕ → Label) → AreLabels (Some f) path n holds l
    → (x : ℕ) → Contains (signals n) x → follows (path x) (l x)
good_is f path n holds l are x signal = elim (Contains-append_cases n.inputs (map (λ (d : Definition). d.id) n.definitions) x signal) [
  | inl input ↦
      let own : ℕ → Tri = λ y. held_value (get_or holds y None) in
      subst (λ m. follows (path x) m)
      (sym (All-contains (λ y. l y ≡ on_line (Some f) (Stem y) (source_label path y (own y))) n.inputs x
      (mapped_zip (λ y v. l y ≡ on_line (Some f) (Stem y) v) (λ y. source_label path y (own y)) n.inputs are.0) input))
      (on_line_follows f (Stem x) (path x) (source_label path x (own x)) refl)
  | inr other ↦
      let m = contains_map (λ (d : Definition). d.id) n.definitions x other in
      subst (λ y. follows (path y) (l y)) m.2 (at_definition m.0 m.1)
]
  where
    at_gate : (d : Definition) → Contains (gates n) d → follows (path d.id) (l d.id)
    at_gate d c =
        let ls : List Label = pins_of (labels (Some f) path) l d in
        subst (λ m. follows (path d.id) m)
        (sym (All-contains (λ (e : Definition). l e.id ≡ on_line (Some f) (Stem e.id) ((labels (Some f) path).gate e (pins_of (labels (Some f) path) l e))) (gates n) d are.2 c))
        (on_line_follows f (Stem d.id) (path d.id) ((labels (Some f) path).gate d ls) refl)

    at_cell : (d : Definition) → Contains (cells n) d → follows (path d.id) (l d.id)
    at_cell d c =
        subst (λ m. follows (path d.id) m)
        (sym (All-contains (λ (e : Definition). l e.id ≡ on_line (Some f) (Stem e.id) (source_label path e.id X)) (cells n) d
        (mapped_zip (λ (e : Definition) v. l e.id ≡ on_line (Some f) (Stem e.id) v) (λ (e : Definition). source_label path e.id X) (cells n) are.1) c))
        (on_line_follows f (Stem d.id) (path d.id) (source_label path d.id X) refl)

    at_definition : (d : Definition) → Contains n.definitions d → follows (path d.id) (l d.id)
    at_definition d c = elim (cases_Bool (is_cell d)) [
      | inl cell ↦ at_cell d (filter_contains is_cell n.definitions d c cell)
      | inr gate ↦ at_gate d (filter_contains is_gate n.definitions d c (ap not gate))
    ]

known_no_x : (b : Bool) → known b ≡ X → ⊥
known_no_x true e = cc
known_no_x false e = cc

undecided_if_x : (o : Option Bool) (l : Label) → follows o l → l.good ≡ X → o ≡ None
undecided_if_x None l h e = refl
undecided_if_x (Some b) l h e = absurd (known_no_x b (sym h ∙ e))

pub free_undecided : (f : Fault) (n : Netlist) (holds : Holds) (path : Path) (x : ℕ) → IsUnknown f n holds path x → decisions path x ≡ None
free_undecided f n holds path x w =
    undecided_if_x (decisions path x) (w.label x) (good_is f (decisions path) n holds w.label w.are x w.signal) w.unknown

-- what isn't decided has the value that its pins tell
pub own_if_undecided : (f : Fault) (path : Decisions) (n : Netlist) (holds : Holds) (l : ℕ → Label) → AreLabels (Some f) path n holds l
    → (x : ℕ) → Contains (signals n) x → path x ≡ None → (l x).own ≡ (l x).good
own_if_undecided f path n holds l are x signal none = sym (subst (λ o. follows o (l x)) none (good_is f path n holds l are x signal))
