use Rattle.std.proofs.Common.{◌≡◌, List, length, ap, sym, ◌∙◌, subst}
use Rattle.statement.specs.declared.lines.Line.TheVariants.{Stem}
use Rattle.netlist.specs.Conditions.{IsSound}
use Rattle.netlist.specs.Settled.{at}
use Rattle.events.specs.Standing.{Standing}
use Rattle.events.specs.Waiting.{IsDrivenTo}
use Rattle.tri.specs.declared.labels.Label.{Label}
use Rattle.tri.specs.Labels.{labels, on_line, input_labels, cell_labels, AreLabels}
use Rattle.tri.specs.Labelling.{decided_in}
use Rattle.label_events.proofs.Changing.{is_driven}
use Rattle.redundancy_cert.proofs.passes.resettle.Goals as goal

pub returns-clause-settled : goal.returns-clause-settled
returns-clause-settled c =
    let f = c.args.labelling.now.fault in
    let path = decided_in c.args.labelling.now.decided.items in
    let n = c.args.events.now.netlist in
    let holds = c.args.holds.now in
    let id = c.args.id in
    let sound : IsSound n = subst IsSound (c.netlist-netlist.ensures ∙ c.core.ensures) c.sound.ensures in
    let values : c.forget.new.self.values ≡ c.change.new.self.values = ap (λ (s : Standing Label). s.values) c.forget.ensures in
    let driven : IsDrivenTo (labels f path) n (input_labels path n holds) (cell_labels path n) id (on_line f (Stem id) c.driven_onto-driven.result) =
    subst (λ (l : Label). IsDrivenTo (labels f path) n (input_labels path n holds) (cell_labels path n) id (on_line f (Stem id) l)) (sym c.driven_onto-driven.ensures)
    (is_driven f path n holds sound c.requires.holds id) in
    record {
      size = ap length values ∙ c.change.ensures.moves.are_changes.size;
      each = λ d h. subst (λ (vs : List Label). AreLabels f path n holds (at vs d)) (sym values)
          (c.change.ensures.settles.each (input_labels path n holds) (cell_labels path n) d driven h);
    }
