-- What a search answers: each answer is its own evidence.
use Rattle.std.specs.Prelude.{ℕ, ◌≡◌, ◌≤◌, ⊤, Bool, IsTrue}
use Rattle.statement.specs.declared.lines.Fault.{Fault}
use Rattle.statement.specs.Netlists.{Netlist}
use Rattle.statement.specs.Patterns.{Holds}
use Rattle.redundancy_cert.specs.TestCubes.{IsTestCube}
use Rattle.redundancy_cert.specs.Trees.{closed_count, open_count}
use Rattle.redundancy_cert.specs.Fits.{Fits}
use Rattle.refutation.specs.Refutations.{Refutes}
use Rattle.evidence.specs.declared.engine.Found.{Found}
use Rattle.evidence.specs.declared.engine.Found.TheVariants.{Test, Closed, Refuted, Partial}

-- a test; or a fitting tree without Open, of at most so many Closed; or steps that refute the fault; or a fitting tree with an Open, of exactly so many
abbrev pub HasEvidence : Fault → Netlist → Holds → ℕ → Found → Type 0
HasEvidence f n holds limit (Test cube point) = IsTestCube f n holds cube point
HasEvidence f n holds limit (Closed tree) = Fits f n holds tree × (open_count tree ≡ 0) × (closed_count tree ≤ limit)
HasEvidence f n holds limit (Refuted steps) = Refutes f n holds steps
HasEvidence f n holds limit (Partial tree) = Fits f n holds tree × (closed_count tree ≡ limit) × (1 ≤ open_count tree)

-- a refutation only where refutations are given
abbrev pub MayAnswer : Bool → Found → Type 0
MayAnswer refutes (Test cube point) = ⊤
MayAnswer refutes (Closed tree) = ⊤
MayAnswer refutes (Refuted steps) = IsTrue refutes
MayAnswer refutes (Partial tree) = ⊤
