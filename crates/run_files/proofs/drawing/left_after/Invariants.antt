use Rattle.std.specs.List.{All}
use Rattle.std.proofs.Common.{ℕ}
use Rattle.statement.specs.Netlists.{Netlist}
use Rattle.statement.specs.declared.lines.Fault.{Fault}
use Rattle.netlist.specs.Lines.{IsLineOf}
use Rattle.run_files.proofs.drawing.left_after.Given as goal

abbrev pub invariant-loop-one : goal.invariant-loop-one
invariant-loop-one l = (n : Netlist) → All (λ (g : ℕ × Fault). IsLineOf n g.1.line) l.left → All (λ (g : ℕ × Fault). IsLineOf n g.1.line) l.rest.items
