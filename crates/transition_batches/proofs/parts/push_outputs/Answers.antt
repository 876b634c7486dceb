use Rattle.transition_frames.proofs.Making.{output_below}
use Rattle.transition_batches.proofs.parts.push_outputs.Goals as goal

pub read-requires-clause-within : goal.read-requires-clause-within
read-requires-clause-within c =
    output_below c.args.netlist.now c.requires.batch.sound c.outputs-y-items.result.now c.loop-y.y-index c.y-item.result c.outputs-y-items.ensures c.loop-y-test.true c.y-item.is
