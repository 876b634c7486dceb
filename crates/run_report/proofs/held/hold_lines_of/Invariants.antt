use Rattle.std.proofs.Common.{◌≡◌, take, flat_map, zip}
use Rattle.run_report.specs.Heads.{hold_at}
use Rattle.run_report.proofs.held.hold_lines_of.Given as goal

abbrev pub invariant-loop-k : goal.invariant-loop-k
invariant-loop-k l = l.lines ≡ flat_map (hold_at l.netlist) (take l.k (zip l.netlist.inputs l.holds))
