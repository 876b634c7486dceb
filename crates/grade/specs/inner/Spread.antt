-- The grades of classes.
use Rattle.std.specs.Prelude.{ℕ, List, map, slice_index_or}
use Rattle.std.specs.List.{AllZip}
use Rattle.statement.specs.declared.lines.Fault.{Fault}
use Rattle.statement.specs.Runs.{Cycle}
use Rattle.scan_insert.specs.Scanned.{Insertion}
use Rattle.chain_test.specs.Hardware.{at_site}
use Rattle.grade.specs.Grades.{IsGraded}
use Rattle.grade.specs.declared.grade.Grade.{Grade}
use Rattle.grade.specs.declared.grade.Grade.TheVariants.{Unknown}

-- of each of these faults of a design the grade at its site
abbrev pub AreSiteGrades : Insertion → List Cycle → List Fault → List Grade → Type 0
AreSiteGrades scanned cycles faults grades = AllZip (λ f grade. IsGraded scanned.netlist f cycles grade) (map (at_site scanned.sites) faults) grades

-- the grade of a class
abbrev pub grade_at : List Grade → ℕ → Grade
grade_at grades class = slice_index_or grades class Unknown
