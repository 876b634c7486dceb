-- What becomes of what a search found.
use Rattle.statement.specs.declared.lines.Fault.{Fault}
use Rattle.redundancy_cert.specs.TestCubes.{IsTestCube}
use Rattle.list_core.specs.Subjects.{Subject}
use Rattle.list_core.specs.States.{MaySettle}
use Rattle.worker.specs.declared.outcomes.Outcome.{Outcome}
use Rattle.worker.specs.declared.outcomes.Outcome.TheVariants.{Test, Settles}

-- a test of the fault, or evidence that may settle it
abbrev pub IsOutcome : Subject → Fault → Outcome → Type 0
IsOutcome j f (Test cube point) = IsTestCube f j.netlist j.holds cube point
IsOutcome j f (Settles evidence stage) = MaySettle j f evidence
