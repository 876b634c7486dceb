use Rattle.std.proofs.Common.{◌≡◌, ◌++◌, drop}
use Rattle.transition_batches.specs.Batches.{all_gates}
use Rattle.transition_batches.proofs.parts.push_all_slow.Given as goal

abbrev pub invariant-loop-place : goal.invariant-loop-place
invariant-loop-place l = l.made.items ++ all_gates l.netlist l.place (drop l.place l.faults) ≡ l.initial.made.items ++ all_gates l.netlist 0 l.faults
