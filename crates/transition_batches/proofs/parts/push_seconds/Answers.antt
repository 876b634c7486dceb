use Rattle.netlist.proofs.Observed.{contained_at}
use Rattle.netlist.proofs.Placed.{definition_below}
use Rattle.transition_batches.proofs.parts.push_seconds.Goals as goal

pub push_second-requires-clause-own : goal.push_second-requires-clause-own
push_second-requires-clause-own c =
    contained_at c.args.netlist.now.definitions c.definitions-definition-items.result.now c.loop-definition.definition-index c.definition-item.result
    c.definitions-definition-items.ensures c.loop-definition-test.true c.definition-item.is

pub push_second-requires-clause-low : goal.push_second-requires-clause-low
push_second-requires-clause-low c =
    definition_below c.args.netlist.now c.requires.batch.sound.formed.numbered c.definition-item.result
    (contained_at c.args.netlist.now.definitions c.definitions-definition-items.result.now c.loop-definition.definition-index c.definition-item.result
    c.definitions-definition-items.ensures c.loop-definition-test.true c.definition-item.is)
