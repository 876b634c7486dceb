use Rattle.std.specs.List.{All}
use Rattle.netlist.specs.Lines.{IsLineOf}
use Rattle.statement.specs.declared.lines.Fault.{Fault}
use Rattle.netlist_calls.proofs.faults.all_of.Given as goal

abbrev pub invariant-loop-place : goal.invariant-loop-place
invariant-loop-place l = All (λ (f : Fault). IsLineOf l.netlist f.line) l.all.items
