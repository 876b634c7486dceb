-- When patterns are no worse than others.
use Rattle.std.specs.Prelude.{ℕ, ◌≤◌, List, length}
use Rattle.std.specs.List.{All}
use Rattle.statement.specs.declared.lines.Fault.{Fault}
use Rattle.statement.specs.declared.lines.Point.{Point}
use Rattle.statement.specs.Netlists.{Netlist}
use Rattle.statement.specs.Patterns.{Holds, IsDetectedAt, Pattern}
use Rattle.cubes.specs.Cubes.{IsPatternOf}

-- some pattern detects the fault
abbrev pub IsSeenBy : Netlist → List Pattern → Fault → Type 0
IsSeenBy n patterns f = (place : ℕ) × (point : Point) × IsDetectedAt n patterns f place point

-- what the old patterns detect of these faults the new ones do
abbrev pub Keeps : Netlist → List Fault → List Pattern → List Pattern → Type 0
Keeps n faults old new = All (λ (f : Fault). IsSeenBy n old f → IsSeenBy n new f) faults

-- They are patterns of the netlist that obey the held inputs, no more than the old ones, and detect each of the faults that these detect.
pub record IsNoWorse (n : Netlist) (holds : Holds) (faults : List Fault) (old new : List Pattern) : Type 0 where
  pub obey : All (IsPatternOf n holds) new
  pub few : length new ≤ length old
  pub keeps : Keeps n faults old new
