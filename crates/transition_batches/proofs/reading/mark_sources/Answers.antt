use Rattle.std.proofs.Common.{◌<◌, length, set, true, refl, ◌∙◌, arith}
use Rattle.transition_batches.proofs.Making.{mark_low, marks_step}
use Rattle.transition_batches.proofs.reading.mark_sources.Goals as goal

pub index_mut-requires : goal.index_mut-requires
index_mut-requires c =
    let below : c.index.result < length c.loop-fault.marks.items =
    mark_low c.args.netlist.now c.sound.ensures c.args.faults.now c.requires c.loop-fault.fault-index c.index.result (length c.loop-fault.marks.items) c.fault-item.result
    c.loop-fault-test.true c.fault-item.is (c.index.ensures ∙ c.source_of.ensures) c.loop-fault.invariant.size in
    omega arith

pub loop-fault-preserved : goal.loop-fault-preserved
loop-fault-preserved c =
    let marks = c.loop-fault.marks.items in
    let own = c.index.ensures ∙ c.source_of.ensures in
    marks_step c.args.netlist.now c.args.faults.now c.loop-fault.fault-index c.index.result c.fault-item.result marks (set marks c.index.result true) c.loop-fault-test.true c.fault-item.is own
    (mark_low c.args.netlist.now c.sound.ensures c.args.faults.now c.requires c.loop-fault.fault-index c.index.result (length marks) c.fault-item.result
    c.loop-fault-test.true c.fault-item.is own c.loop-fault.invariant.size) refl c.loop-fault.invariant
