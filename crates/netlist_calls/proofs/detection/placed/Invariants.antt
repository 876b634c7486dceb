use Rattle.std.proofs.Common.{ℕ}
use Rattle.std.specs.List.{All}
use Rattle.netlist.specs.Lines.{IsLineOf}
use Rattle.statement.specs.declared.lines.Fault.{Fault}
use Rattle.netlist_calls.proofs.detection.placed.Given as goal

abbrev pub invariant-loop-fault : goal.invariant-loop-fault
invariant-loop-fault l = All (λ (g : ℕ × Fault). IsLineOf l.core g.1.line) l.classes.items
