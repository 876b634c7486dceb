use Rattle.std.proofs.Common.{◌≡◌, drop}
use Rattle.transition_batches.specs.Batches.{read_late}
use Rattle.transition_batches.proofs.reading.read_by_list.Given as goal

abbrev pub invariant-loop-place : goal.invariant-loop-place
invariant-loop-place l = read_late l.netlist 0 l.faults l.line l.x ≡ read_late l.netlist l.place (drop l.place l.faults) l.line l.x
