use Rattle.std.proofs.Common.{take}
use Rattle.redundancy_cert.specs.inner.Passing.{Marks}
use Rattle.redundancy_cert.proofs.observed.mark_outputs.Given as goal

abbrev pub invariant-loop-x : goal.invariant-loop-x
invariant-loop-x l = Marks (take l.x-index l.core.outputs) l.fn.marks.items l.marks.items
