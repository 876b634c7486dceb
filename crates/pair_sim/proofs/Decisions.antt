-- Onto a source that was X comes what a decision says.
use Rattle.std.proofs.Common.{◌≡◌, ℕ, Bool, true, false, not, cond, List, [], ◌∷◌, map, get_or, Some, None, refl, sym, ◌∙◌, ap}
use Rattle.std.specs.List.{All, AllZip}
use Rattle.std.proofs.lemmas.List.Elements.{All-contains, All-head, All-tail}
use Rattle.statement.specs.declared.kinds.Tri.{Tri}
use Rattle.statement.specs.declared.kinds.Tri.TheVariants.{X}
use Rattle.statement.specs.declared.lines.Line.{Line}
use Rattle.statement.specs.declared.lines.Line.TheVariants.{Stem}
use Rattle.statement.specs.declared.lines.Fault.{Fault}
use Rattle.statement.specs.Patterns.{Holds}
use Rattle.statement.specs.Netlists.{Definition, Netlist, cells}
use Rattle.statement.specs.Values.{is_line, known}
use Rattle.netlist.proofs.Lists.{All-from_contains}
use Rattle.tri.specs.declared.labels.Label.{Label}
use Rattle.tri.specs.Labels.{Decisions, AreLabels, is_known_as, labels, label_of, on_line, held_value, source_label, input_labels, cell_labels}
use Rattle.tri.proofs.LabelLemmas.{mapped_zip}
use Rattle.events.specs.Waiting.{IsDrivenTo}

zip_mapped : {A B : Type 0} (R : A → B → Type 0) (g : A → B) (xs : List A) → All (λ x. R x (g x)) xs → AllZip R xs (map g xs)
zip_mapped R g [] h = tt
zip_mapped R g (x ∷ xs) h = (All-head (λ y. R y (g y)) x xs h, zip_mapped R g xs (All-tail (λ y. R y (g y)) x xs h))

on_line_own : (f : Fault) (line : Line) (l : Label) → (on_line (Some f) line l).own ≡ l.own
on_line_own f line l =
    let step : (t : Bool) → (cond t (record { own = l.own; good = l.good; faulty = known f.value; may_differ = not (is_known_as f.value l.good) }) l).own ≡ l.own = elim [ true ↦ refl | false ↦ refl ] in
    step (is_line f.line line)

module _ (f : Fault) (path path' : Decisions) (n : Netlist) (holds : Holds) (l : ℕ → Label) (x : ℕ) (are : AreLabels (Some f) path n holds l) where
  own : ℕ → Tri
  own y = held_value (get_or holds y None)

  inputs_are : All (λ y. l y ≡ on_line (Some f) (Stem y) (source_label path y (own y))) n.inputs
  unfolding own
  inputs_are = mapped_zip (λ y v. l y ≡ on_line (Some f) (Stem y) v) (λ y. source_label path y (own y)) n.inputs are.0

  -- onto a source that was X
  pub source_is_driven : (l x).own ≡ X → IsDrivenTo (labels (Some f) path') n (input_labels path' n holds) (cell_labels path' n) x (on_line (Some f) (Stem x) (label_of (path' x) X X false))
  unfolding own
  source_is_driven free = record {
    from_inputs = zip_mapped (λ y w. y ≡ x → on_line (Some f) (Stem x) (label_of (path' x) X X false) ≡ on_line (Some f) (Stem x) w) (λ y. source_label path' y (own y)) n.inputs
        (All-from_contains (λ y. y ≡ x → on_line (Some f) (Stem x) (label_of (path' x) X X false) ≡ on_line (Some f) (Stem x) (source_label path' y (own y))) n.inputs
        (λ y c e.
        let is = All-contains (λ z. l z ≡ on_line (Some f) (Stem z) (source_label path z (own z))) n.inputs y inputs_are c in
        let free_own : own y ≡ X = sym (on_line_own f (Stem y) (source_label path y (own y))) ∙ (ap (λ (m : Label). m.own) (sym is) ∙ (ap (λ z. (l z).own) e ∙ free)) in
        ap (on_line (Some f) (Stem x)) (ap (λ v. label_of (path' x) v X false) (sym free_own) ∙ ap (λ z. label_of (path' z) (own y) X false) (sym e))));
    from_state = zip_mapped (λ (d : Definition) w. d.id ≡ x → on_line (Some f) (Stem x) (label_of (path' x) X X false) ≡ on_line (Some f) (Stem x) w) (λ (d : Definition). source_label path' d.id X) (cells n)
        (All-from_contains (λ (d : Definition). d.id ≡ x → on_line (Some f) (Stem x) (label_of (path' x) X X false) ≡ on_line (Some f) (Stem x) (source_label path' d.id X)) (cells n)
        (λ d c e. ap (λ z. on_line (Some f) (Stem x) (source_label path' z X)) (sym e)));
  }
