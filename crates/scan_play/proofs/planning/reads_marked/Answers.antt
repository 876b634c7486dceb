use Rattle.std.proofs.Common.{◌≤◌, ◌<◌, List, ℕ, length, ap, sym, ◌∙◌, subst}
use Rattle.statement.specs.Netlists.{Definition, signals}
use Rattle.netlist.proofs.Placed.{definition_below, gate_defined, same_definition}
use Rattle.netlist.proofs.Settling.{above_inputs}
use Rattle.scan_play.specs.inner.Plans.{AreMarked}
use Rattle.scan_play.proofs.planning.reads_marked.Goals as goal

pub definition-requires-clause-defined : goal.definition-requires-clause-defined
definition-requires-clause-defined c =
    let n = c.args.netlist.now in
    let w = c.requires.gate in
    subst (λ x. length n.inputs ≤ x) w.2 (above_inputs n c.requires.sound.formed.numbered w.0 (gate_defined n c.requires.sound.formed.numbered w.0 w.1))

pub definition-requires-clause-within : goal.definition-requires-clause-within
definition-requires-clause-within c =
    let n = c.args.netlist.now in
    let w = c.requires.gate in
    subst (λ x. x < length (signals n)) w.2 (definition_below n c.requires.sound.formed.numbered w.0 (gate_defined n c.requires.sound.formed.numbered w.0 w.1))

pub returns : goal.returns
returns c e g gate same =
    let n = c.args.netlist.now in
    let one = same_definition n c.requires.sound.formed.numbered c.definition.result.now g c.definition.ensures.member (gate_defined n c.requires.sound.formed.numbered g gate) (c.definition.ensures.same ∙ sym same) in
    subst (λ (xs : List ℕ). AreMarked c.args.marks.now xs) (c.pins.ensures ∙ ap (λ (d : Definition). d.pins) one) (c.are_marked.ensures e)
