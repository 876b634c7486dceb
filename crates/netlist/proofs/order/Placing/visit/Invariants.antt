use Rattle.std.proofs.Common.{take}
use Rattle.netlist.specs.inner.Sorting.{Counts}
use Rattle.netlist.proofs.order.Placing.visit.Given as goal

abbrev pub invariant-loop-line : goal.invariant-loop-line
invariant-loop-line l = Counts (take l.line-index l.readers) l.initial.self l.self
