-- The grades of a run's own test, beside its report.
use Rattle.std.specs.Prelude.{ℕ, ◌≡◌, ◌≢◌, ◌≤◌, List}
use Rattle.std.specs.List.{AllZip}
use Rattle.statement.specs.declared.outcomes.Outcome.{Outcome}
use Rattle.statement.specs.declared.outcomes.Outcome.TheVariants as outcome
use Rattle.statement.specs.Reports.{Line}
use Rattle.statement.specs.Statement.{FiveFiles}
use Rattle.statement.specs.Faults.{universe_of}
use Rattle.statement.specs.Tests.{vectors_in}
use Rattle.netlist.specs.Conditions.{IsSound}
use Rattle.netlist.specs.Designs.{IsDesign}
use Rattle.scan_insert.specs.Scanned.{insertion_of}
use Rattle.good_files.specs.GoodFiles.{AreGoodFiles, Contents, chains_in}
use Rattle.grade.specs.Grades.{AreGrades}
use Rattle.grade.specs.declared.grade.Grade.{Grade}
use Rattle.grade.specs.declared.grade.Grade.TheVariants.{Detected, Undetected, Unknown}

-- Where the report says detected, the fault is detected, at the latest in the cycle that it names; where it says redundant or aborted, it is undetected;
-- and of no fault nothing is known.
abbrev pub Agrees : Outcome → Grade → Type 0
Agrees (outcome.Detected place cycle) grade = (c o : ℕ) × (grade ≡ Detected c o) × (c ≤ cycle)
Agrees outcome.Redundant grade = grade ≡ Undetected
Agrees outcome.Aborted grade = grade ≡ Undetected
Agrees outcome.Unasked grade = grade ≢ Unknown

-- The grades of the test of good files, as a run makes them, agree with the report, line by line.
abbrev pub AgreesWithReport : Type 0
AgreesWithReport =
    (files : FiveFiles) (c : Contents) (grades : List Grade) → IsSound c.netlist → IsDesign c.netlist → AreGoodFiles files c
    → AreGrades (insertion_of c.netlist (chains_in c)) (universe_of c.netlist) (vectors_in c.file) grades
    → AllZip (λ (line : Line) grade. Agrees line.outcome grade) c.said.lines grades
