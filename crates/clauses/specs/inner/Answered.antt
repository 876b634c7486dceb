-- What engines answer together (private to this crate).
use Rattle.std.specs.Prelude.{ℕ, ⊤, true}
use Rattle.statement.specs.declared.lines.Fault.{Fault}
use Rattle.statement.specs.Netlists.{Netlist}
use Rattle.statement.specs.Patterns.{Holds}
use Rattle.redundancy_cert.specs.TestCubes.{IsTestCube}
use Rattle.refutation.specs.Refutations.{Refutes}
use Rattle.evidence.specs.declared.engine.Found.{Found}
use Rattle.evidence.specs.declared.engine.Found.TheVariants.{Test, Closed, Refuted, Partial}
use Rattle.evidence.specs.Answers.{HasEvidence, MayAnswer}
use Rattle.clauses.specs.Rules.{HasClauseEvidence}

-- more than that the search gave up
abbrev pub IsSettled : Found → Type 0
IsSettled (Test cube point) = ⊤
IsSettled (Closed tree) = ⊤
IsSettled (Refuted steps) = ⊤
IsSettled (Partial tree) = ⊥

-- a test, or a refutation
abbrev pub IsVerified : Fault → Netlist → Holds → Found → Type 0
IsVerified f n holds (Test cube point) = IsTestCube f n holds cube point
IsVerified f n holds (Closed tree) = ⊥
IsVerified f n holds (Refuted steps) = Refutes f n holds steps
IsVerified f n holds (Partial tree) = ⊥

-- what PODEM may answer
pub record IsByTree (f : Fault) (n : Netlist) (holds : Holds) (limit : ℕ) (found : Found) : Type 0 where
  pub evidence : HasEvidence f n holds limit found
  pub rule : HasClauseEvidence f n holds limit found
  pub kind : MayAnswer true found
