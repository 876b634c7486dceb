use Rattle.transition_batches.proofs.Making.{pin_low, pin_source}
use Rattle.transition_batches.proofs.reading.read_pins.Goals as goal

pub read-requires-clause-within : goal.read-requires-clause-within
read-requires-clause-within c =
    pin_low c.args.netlist.now c.requires.batch.sound c.args.definition.now c.requires.own c.pins-pins.result.now c.loop-k.k c.index-pins-k.result c.pins-pins.ensures c.loop-k-test.true c.index-pins-k.is

pub read-requires-clause-own : goal.read-requires-clause-own
read-requires-clause-own c =
    pin_source c.args.netlist.now c.requires.batch.sound c.args.definition.now c.requires.own c.pins-pins.result.now c.id.result c.loop-k.k c.index-pins-k.result c.id.ensures c.pins-pins.ensures
    c.loop-k-test.true c.index-pins-k.is
