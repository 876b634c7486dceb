-- Laws of grading, each the contract of a function of its name.
use Rattle.std.specs.Prelude.{ℕ, List, Some}
use Rattle.std.specs.List.{All}
use Rattle.statement.specs.declared.lines.Fault.{Fault}
use Rattle.statement.specs.Netlists.{Netlist}
use Rattle.statement.specs.Patterns.{Holds, Pattern}
use Rattle.statement.specs.Runs.{Cycle, FailsAt, Passes}
use Rattle.netlist.specs.Netlist.{IsAcyclic}
use Rattle.netlist.specs.Conditions.{IsClosed, IsSound}
use Rattle.netlist.specs.Designs.{IsDesign}
use Rattle.netlist.specs.Lines.{IsLineOf}
use Rattle.scan_insert.specs.Scanned.{AreChainsOf, scanned_of, sites_of}
use Rattle.scan_play.specs.Cycles.{IsCycleOf}
use Rattle.scan_play.specs.Vectors.{AreVectors}
use Rattle.chain_test.specs.Hardware.{at_site}
use Rattle.grade.specs.Grades.{IsGraded}
use Rattle.grade.specs.Patterns.{IsPatternGrade}
use Rattle.grade.specs.declared.grade.Grade.{Grade}
use Rattle.grade.specs.declared.grade.Grade.TheVariants.{Detected, Undetected}

-- What is detected fails at its strobe from every power-up state.
abbrev pub DetectedFails : Type 0
DetectedFails =
    (s : Netlist) (g : Fault) (cycles : List Cycle) (c o : ℕ) → IsClosed s → IsAcyclic s → IsGraded s g cycles (Detected c o) → FailsAt s (Some g) cycles c o

-- What is undetected passes from every power-up state.
abbrev pub UndetectedPasses : Type 0
UndetectedPasses =
    (s : Netlist) (g : Fault) (cycles : List Cycle) → IsClosed s → IsAcyclic s → All (IsCycleOf s) cycles → IsGraded s g cycles Undetected → Passes s (Some g) cycles

-- On the vectors of some patterns the grade of a fault of the design, at its site, is the one by patterns.
abbrev pub PatternsGrade : Type 0
PatternsGrade =
    (n : Netlist) (holds : Holds) (chains : List (List ℕ)) (patterns : List Pattern) (cycles : List Cycle) (f : Fault) (grade : Grade)
    → IsSound n → IsDesign n → AreChainsOf n chains → AreVectors n holds chains patterns cycles → IsLineOf n f.line
    → IsPatternGrade n chains patterns f grade → IsGraded (scanned_of n chains) (at_site (sites_of n chains) f) cycles grade
