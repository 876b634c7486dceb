use Rattle.std.proofs.Common.{◌≡◌, take}
use Rattle.std.specs.List.{flat_map}
use Rattle.statement.specs.Netlists.{signals}
use Rattle.statement.specs.Faults.{lines_of}
use Rattle.fault_universe.proofs.fault_sets.lines.Given as goal

abbrev pub invariant-loop-x : goal.invariant-loop-x
invariant-loop-x l = l.lines.items ≡ flat_map (lines_of l.netlist) (take l.x (signals l.netlist))
