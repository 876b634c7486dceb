use Rattle.std.proofs.Common.{take}
use Rattle.transition_batches.specs.inner.Marks.{AreSourcesMarked}
use Rattle.transition_batches.proofs.reading.mark_sources.Given as goal

abbrev pub invariant-loop-fault : goal.invariant-loop-fault
invariant-loop-fault l = AreSourcesMarked l.netlist (take l.fault-index l.faults) l.marks.items
