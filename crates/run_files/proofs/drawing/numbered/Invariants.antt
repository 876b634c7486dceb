use Rattle.std.specs.List.{All}
use Rattle.std.proofs.Common.{ℕ}
use Rattle.statement.specs.Netlists.{Netlist}
use Rattle.statement.specs.declared.lines.Fault.{Fault}
use Rattle.netlist.specs.Lines.{IsLineOf}
use Rattle.run_files.proofs.drawing.numbered.Given as goal

abbrev pub invariant-loop-k : goal.invariant-loop-k
invariant-loop-k l = (n : Netlist) → All (λ (f : Fault). IsLineOf n f.line) l.faults → All (λ (g : ℕ × Fault). IsLineOf n g.1.line) l.all.items
