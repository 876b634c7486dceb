use Rattle.transition_frames.proofs.Making.{source_low}
use Rattle.transition_batches.proofs.parts.push_slow.Goals as goal

pub second-requires-clause-within : goal.second-requires-clause-within
second-requires-clause-within c = source_low c.args.netlist.now c.requires.sound c.args.fault.now c.requires.line c.source_of-x.result c.source_of-x.ensures
