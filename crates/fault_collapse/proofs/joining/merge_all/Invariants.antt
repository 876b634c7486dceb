use Rattle.std.proofs.Common.{◌*◌}
use Rattle.fault_collapse.specs.inner.Merging.{AreMerged}
use Rattle.fault_collapse.proofs.joining.merge_all.Given as goal

abbrev pub invariant-loop-line : goal.invariant-loop-line
invariant-loop-line l = AreMerged l.netlist l.parents (2 * l.line)
