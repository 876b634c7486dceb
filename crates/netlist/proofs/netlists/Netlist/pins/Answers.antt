use Rattle.std.proofs.Common.{[], ap, sym, ◌∙◌, arith}
use Rattle.std.specs.Option.{option_map_or}
use Rattle.netlist.specs.Conditions.{whole}
use Rattle.statement.specs.Netlists.{Netlist, Definition as Equation}
use Rattle.netlist.specs.Netlist.{definition_of}
use Rattle.netlist.proofs.Found.{input_undefined, defined}
use Rattle.netlist.proofs.netlists.Netlist.pins.Goals as goal

pub returns-then-index-len : goal.returns-then-index-len
returns-then-index-len c =
    let n = whole c.self.inside.parts in
    let i = c.self.inside.parts.inputs.ok.0 in
    sym (ap (λ (m : Netlist). option_map_or (λ (d : Equation). d.pins) (definition_of m c.args.id) []) (sym c.self.view_is)
    ∙ ap (λ o. option_map_or (λ (d : Equation). d.pins) o []) (input_undefined n c.self.invariant.sound.formed.numbered c.args.id (omega arith)))

pub returns : goal.returns
returns c =
    c.pins.ensures
    ∙ sym (ap (λ o. option_map_or (λ (d : Equation). d.pins) o []) (defined c.args.self.now c.sound.ensures.formed.numbered c.definition.result.now c.args.id c.definition.ensures.member c.definition.ensures.same))
