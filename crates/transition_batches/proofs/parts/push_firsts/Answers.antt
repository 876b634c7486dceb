use Rattle.netlist.proofs.Observed.{contained_at}
use Rattle.transition_batches.proofs.parts.push_firsts.Goals as goal

pub push_first-requires-clause-own : goal.push_first-requires-clause-own
push_first-requires-clause-own c =
    contained_at c.args.netlist.now.definitions c.definitions-definition-items.result.now c.loop-definition.definition-index c.definition-item.result
    c.definitions-definition-items.ensures c.loop-definition-test.true c.definition-item.is
