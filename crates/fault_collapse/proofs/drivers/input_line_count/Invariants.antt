use Rattle.std.proofs.Common.{◌≡◌}
use Rattle.fault_collapse.proofs.Stems.{lines_before}
use Rattle.fault_collapse.proofs.drivers.input_line_count.Given as goal

abbrev pub invariant-loop-x : goal.invariant-loop-x
invariant-loop-x l = l.count ≡ lines_before l.netlist l.x-index
