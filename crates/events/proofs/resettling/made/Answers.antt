use Rattle.std.proofs.Common.{◌≡◌, ◌≤◌, ◌<◌, ap, sym, subst, ◌∙◌, length, refl}
use Rattle.statement.specs.Netlists.{Definition, signals}
use Rattle.netlist.specs.Settled.{at}
use Rattle.netlist.proofs.Placed.{definition_below, gate_defined, same_definition}
use Rattle.netlist.proofs.Settling.{above_inputs, pins_within}
use Rattle.events.specs.Waiting.{given}
use Rattle.events.proofs.Definitions.{definition_is}
use Rattle.events.proofs.resettling.made.Goals as goal

pub definition-definition-requires-clause-defined : goal.definition-definition-requires-clause-defined
definition-definition-requires-clause-defined g c =
    let n = c.args.netlist.now in
    let w = c.requires.gate in
    let l = above_inputs n c.requires.sound.formed.numbered w.0 (gate_defined n c.requires.sound.formed.numbered w.0 w.1) in
    subst (λ x. length n.inputs ≤ x) w.2 l

pub definition-definition-requires-clause-within : goal.definition-definition-requires-clause-within
definition-definition-requires-clause-within g c =
    let n = c.args.netlist.now in
    let w = c.requires.gate in
    subst (λ x. x < length (signals n)) w.2 (definition_below n c.requires.sound.formed.numbered w.0 (gate_defined n c.requires.sound.formed.numbered w.0 w.1))

pub made-requires-clause-below : goal.made-requires-clause-below
made-requires-clause-below g c =
    let n = c.args.netlist.now in
    pins_within n c.requires.sound.formed.numbered c.requires.sound.closed c.definition-definition.result.now c.definition-definition.ensures.member
    c.pins.result.now (length c.args.values.now) c.pins.ensures c.requires.size

pub returns : goal.returns
returns g c = λ f d gate same.
    let n = c.args.netlist.now in
    let numbered = c.requires.sound.formed.numbered in
    let one : c.definition-definition.result.now ≡ f =
    same_definition n numbered c.definition-definition.result.now f c.definition-definition.ensures.member (gate_defined n numbered f gate) (c.definition-definition.ensures.same ∙ sym same) in
    c.made.ensures d
    ∙ ap (λ (e : Definition). given (g.L.Logic.rule c.args.rule.now) (at c.args.values.now d) e)
    (definition_is c.definition-definition.result.now c.args.id c.kind.result c.pins.result.now (sym c.definition-definition.ensures.same) c.kind.ensures c.pins.ensures ∙ one)

pub made_wide-requires-clause-below : goal.made_wide-requires-clause-below
made_wide-requires-clause-below g c =
    pins_within c.args.netlist.now c.requires.sound.formed.numbered c.requires.sound.closed c.definition-definition.result.now c.definition-definition.ensures.member
    c.definition-definition.result.now.pins (length c.args.values.now) refl c.requires.size

pub returns-then-is_wide : goal.returns-then-is_wide
returns-then-is_wide g c = λ f d gate same.
    let n = c.args.netlist.now in
    let numbered = c.requires.sound.formed.numbered in
    let one : c.definition-definition.result.now ≡ f =
    same_definition n numbered c.definition-definition.result.now f c.definition-definition.ensures.member (gate_defined n numbered f gate) (c.definition-definition.ensures.same ∙ sym same) in
    c.made_wide.ensures d ∙ ap (λ (e : Definition). given (g.L.Logic.rule c.args.rule.now) (at c.args.values.now d) e) one
