-- A signal that is X isn't decided.
use Rattle.std.proofs.Common.{◌≡◌, ℕ, Bool, true, false, not, cond, List, map, Option, Some, None, get_or, refl, sym, ◌∙◌, ap, subst, inl, inr}
use Rattle.std.specs.List.{Contains}
use Rattle.std.proofs.lemmas.Bool.{cases_Bool}
use Rattle.std.proofs.lemmas.List.Elements.{All-contains, Contains-append_cases}
use Rattle.statement.specs.declared.kinds.Tri.{Tri}
use Rattle.statement.specs.declared.kinds.Tri.TheVariants.{X}
use Rattle.statement.specs.declared.lines.Fault.{Fault}
use Rattle.statement.specs.declared.lines.Line.{Line}
use Rattle.statement.specs.declared.lines.Line.TheVariants.{Stem}
use Rattle.statement.specs.Netlists.{Definition, Netlist, is_cell, cells, gates}
use Rattle.netlist.specs.Netlist.{is_gate}
use Rattle.netlist.specs.Conditions.{IsSound}
use Rattle.statement.specs.Values.{is_line, pins_of, known}
use Rattle.netlist.proofs.Lists.{contains_map, filter_contains}
use Rattle.tri.specs.declared.labels.Label.{Label}
use Rattle.tri.specs.Gates.{gate_tri}
use Rattle.tri.specs.Labels.{is_known_as, on_line, good_of, source_label, held_value, labels}
use Rattle.statement.specs.Patterns.{Holds}
use Rattle.tri.proofs.LabelLemmas.{mapped_zip}
use Rattle.tri.specs.Paths.{Path, decisions, IsUnknown}

pub on_line_good : (f : Fault) (line : Line) (l : Label) → (on_line (Some f) line l).good ≡ l.good
on_line_good f line l =
    let step : (t : Bool) → (cond t (record { own = l.own; good = l.good; faulty = known f.value; may_differ = not (is_known_as f.value l.good) }) l).good ≡ l.good =
    elim [ true ↦ refl | false ↦ refl ] in
    step (is_line f.line line)

known_no_x : (b : Bool) → known b ≡ X → ⊥
known_no_x true e = cc
known_no_x false e = cc

pub good_no_x : (d : Option Bool) (own : Tri) → good_of d own ≡ X → d ≡ None
good_no_x None own e = refl
good_no_x (Some b) own e = absurd (known_no_x b e)

pub free_undecided : (f : Fault) (n : Netlist) (holds : Holds) (path : Path) (x : ℕ) → IsSound n → IsUnknown f n holds path x → decisions path x ≡ None
free_undecided f n holds path x sound w = elim (Contains-append_cases n.inputs (map (λ (d : Definition). d.id) n.definitions) x w.signal) [
  | inl input ↦
      let own : ℕ → Tri = λ y. held_value (get_or holds y None) in
      at_source x (own x) (All-contains (λ y. w.label y ≡ on_line (Some f) (Stem y) (source_label (decisions path) y (own y))) n.inputs x
      (mapped_zip (λ y v. w.label y ≡ on_line (Some f) (Stem y) v) (λ y. source_label (decisions path) y (own y)) n.inputs w.are.0) input) w.unknown
  | inr other ↦
      let m = contains_map (λ (d : Definition). d.id) n.definitions x other in
      subst (λ y. decisions path y ≡ None) m.2 (at_definition m.0 m.1 (ap (λ y. (w.label y).good) m.2 ∙ w.unknown))
]
  where
    at_source : (y : ℕ) (own : Tri) → w.label y ≡ on_line (Some f) (Stem y) (source_label (decisions path) y own) → (w.label y).good ≡ X → decisions path y ≡ None
    at_source y own e u = good_no_x (decisions path y) own (sym (ap (λ (k : Label). k.good) e ∙ on_line_good f (Stem y) (source_label (decisions path) y own)) ∙ u)

    at_gate : (d : Definition) → Contains (gates n) d → (w.label d.id).good ≡ X → decisions path d.id ≡ None
    at_gate d c u =
        let ls : List Label = pins_of (labels (Some f) (decisions path)) w.label d in
        let is : w.label d.id ≡ on_line (Some f) (Stem d.id) ((labels (Some f) (decisions path)).gate d ls) =
        All-contains (λ (e : Definition). w.label e.id ≡ on_line (Some f) (Stem e.id) ((labels (Some f) (decisions path)).gate e (pins_of (labels (Some f) (decisions path)) w.label e))) (gates n) d w.are.2 c in
        good_no_x (decisions path d.id) (gate_tri d.kind (map (λ (m : Label). m.good) ls))
        (sym (ap (λ (k : Label). k.good) is ∙ on_line_good f (Stem d.id) ((labels (Some f) (decisions path)).gate d ls)) ∙ u)

    at_cell : (d : Definition) → Contains (cells n) d → (w.label d.id).good ≡ X → decisions path d.id ≡ None
    at_cell d c u = at_source d.id X (All-contains (λ (e : Definition). w.label e.id ≡ on_line (Some f) (Stem e.id) (source_label (decisions path) e.id X)) (cells n) d
        (mapped_zip (λ (e : Definition) v. w.label e.id ≡ on_line (Some f) (Stem e.id) v) (λ (e : Definition). source_label (decisions path) e.id X) (cells n) w.are.1) c) u

    at_definition : (d : Definition) → Contains n.definitions d → (w.label d.id).good ≡ X → decisions path d.id ≡ None
    at_definition d c u = elim (cases_Bool (is_cell d)) [
      | inl cell ↦ at_cell d (filter_contains is_cell n.definitions d c cell) u
      | inr gate ↦ at_gate d (filter_contains is_gate n.definitions d c (ap not gate)) u
    ]
