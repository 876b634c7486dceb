use Rattle.std.specs.List.{All}
use Rattle.netlist.specs.Lines.{IsLineOf}
use Rattle.statement.specs.declared.lines.Fault.{Fault}
use Rattle.netlist_calls.proofs.detection.faults_of.Given as goal

abbrev pub invariant-loop-name : goal.invariant-loop-name
invariant-loop-name l = All (λ (f : Fault). IsLineOf l.netlist f.line) l.faults.items
