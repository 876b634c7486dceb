use Rattle.std.proofs.Common.{◌≡◌, ℕ, List, None, map, length, get_or, ap, ◌∙◌, subst}
use Rattle.statement.specs.declared.kinds.Tri.TheVariants.{X}
use Rattle.statement.specs.Netlists.{Definition, Netlist, cells}
use Rattle.netlist.specs.Conditions.{IsSound}
use Rattle.statement.specs.Values.{Settles}
use Rattle.netlist.specs.Settled.{at}
use Rattle.netlist.proofs.Lists.{map_map}
use Rattle.tri.specs.declared.labels.Label.{Label}
use Rattle.tri.specs.Labels.{labels, source_label, held_value, input_labels, cell_labels}
use Rattle.tri.specs.Labelling.{decided_in}
use Rattle.tri.proofs.LabelLemmas.{inputs_within}
use Rattle.tri.proofs.labelling.label_all.Goals as goal

pub returns : goal.returns
returns c =
    let f = c.args.labelling.now.fault in
    let path = decided_in c.args.labelling.now.decided.items in
    let n = c.args.core.now in
    let holds = c.args.holds.now in
    let onto_input : ℕ → Label = λ x. source_label path x (held_value (get_or holds x None)) in
    let onto_cell : ℕ → Label = λ x. source_label path x X in
    let inputs : c.deref.result.now ≡ input_labels path n holds =
    c.deref.ensures.value ∙ (c.in_ok-inputs.ensures ∙ ap (map onto_input) (c.inputs.ensures ∙ ap (λ (m : Netlist). m.inputs) c.netlist-2.ensures)) in
    let state : c.deref-2.result.now ≡ cell_labels path n =
    c.deref-2.ensures.value ∙ (c.in_ok-state.ensures
    ∙ (ap (map onto_cell) (c.cells.ensures ∙ ap (λ (m : Netlist). map (λ (d : Definition). d.id) (cells m)) c.netlist-3.ensures)
    ∙ map_map (λ (d : Definition). d.id) onto_cell (cells n))) in
    record {
      size = c.in_ok-values.ensures.size;
      labels = λ d.
          subst (λ (xs : List Label). Settles (labels f path) n xs (cell_labels path n) (at c.in_ok-values.values.items d)) inputs
          (subst (λ (ys : List Label). Settles (labels f path) n c.deref.result.now ys (at c.in_ok-values.values.items d)) state (c.in_ok-values.ensures.settled d));
    }

pub input_labels-requires : goal.input_labels-requires
input_labels-requires c =
    inputs_within c.args.core.now (subst IsSound c.netlist.ensures c.sound.ensures) c.inputs.result.now (length c.args.holds.now)
    (c.inputs.ensures ∙ ap (λ (m : Netlist). m.inputs) c.netlist-2.ensures) c.requires
