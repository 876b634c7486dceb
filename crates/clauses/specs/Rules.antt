-- What more the search answers: its trees are PODEM's.
use Rattle.std.specs.Prelude.{ℕ, ⊤}
use Rattle.statement.specs.declared.lines.Fault.{Fault}
use Rattle.statement.specs.Netlists.{Netlist}
use Rattle.statement.specs.Patterns.{Holds}
use Rattle.evidence.specs.declared.engine.Found.{Found}
use Rattle.evidence.specs.declared.engine.Found.TheVariants.{Test, Closed, Refuted, Partial}
use Rattle.podem.specs.Sources.{HasSourceEvidence}

-- of a refutation nothing more
abbrev pub HasClauseEvidence : Fault → Netlist → Holds → ℕ → Found → Type 0
HasClauseEvidence f n holds limit (Test cube point) = HasSourceEvidence f n holds limit (Test cube point)
HasClauseEvidence f n holds limit (Closed tree) = HasSourceEvidence f n holds limit (Closed tree)
HasClauseEvidence f n holds limit (Refuted steps) = ⊤
HasClauseEvidence f n holds limit (Partial tree) = HasSourceEvidence f n holds limit (Partial tree)
