use Rattle.std.proofs.Common.{take}
use Rattle.std.specs.List.{AllZip, zip}
use Rattle.statement.specs.Faults.{universe_of}
use Rattle.transition_tests.specs.Lines.{IsVerdictLine}
use Rattle.transition_tests.proofs.lines.lines_of.Given as goal

abbrev pub invariant-loop-i : goal.invariant-loop-i
invariant-loop-i l = AllZip (IsVerdictLine l.netlist l.chains) (take l.i (zip (universe_of l.netlist) l.verdicts)) l.lines
