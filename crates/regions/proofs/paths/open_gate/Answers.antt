use Rattle.std.proofs.Common.{◌<◌, List, ℕ, length, sym, subst}
use Rattle.std.specs.List.{All}
use Rattle.statement.specs.declared.kinds.Kind.{Kind}
use Rattle.regions.specs.inner.Controlled.{AreControlled}
use Rattle.regions.proofs.PathWords.{gate_low, pins_low}
use Rattle.regions.proofs.paths.open_gate.Goals as goal

pub definition-definition-requires-clause-defined : goal.definition-definition-requires-clause-defined
definition-definition-requires-clause-defined c = (gate_low c.args.netlist.now c.sound.ensures c.args.gate c.requires.gate).0

pub definition-definition-requires-clause-within : goal.definition-definition-requires-clause-within
definition-definition-requires-clause-within c = (gate_low c.args.netlist.now c.sound.ensures c.args.gate c.requires.gate).1

pub of-controlling-requires : goal.of-controlling-requires
of-controlling-requires c = record {
  below = subst (λ ps. All (λ x. x < length c.args.values.now) ps) (sym c.pins-pins.ensures)
      (pins_low c.args.netlist.now c.sound.ensures c.args.values.now c.requires.size c.definition-definition.result.now c.definition-definition.ensures.member);
}

pub open_pin-requires-clause-place : goal.open_pin-requires-clause-place
open_pin-requires-clause-place c = subst (λ (ps : List ℕ). c.loop-place.place < length ps) c.pins-pins.ensures c.loop-place-test.true

pub open_pin-requires-clause-controlled : goal.open_pin-requires-clause-controlled
open_pin-requires-clause-controlled c =
    subst (λ (k : Kind). AreControlled k c.definition-definition.result.now.pins c.args.values.now c.of-controlling.result.one c.of-controlling.result.two) c.kind.ensures
    (subst (λ (ps : List ℕ). AreControlled c.kind.result ps c.args.values.now c.of-controlling.result.one c.of-controlling.result.two) c.pins-pins.ensures c.of-controlling.ensures)
