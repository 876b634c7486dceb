-- Laws of refutations, each the contract of a function of its name.
use Rattle.std.specs.Prelude.{ℕ, ◌≡◌, Bool, List}
use Rattle.statement.specs.declared.lines.Fault.{Fault}
use Rattle.statement.specs.declared.lines.Point.{Point}
use Rattle.statement.specs.Netlists.{Netlist}
use Rattle.statement.specs.Patterns.{Holds, Detects}
use Rattle.netlist.specs.Conditions.{IsSound}
use Rattle.netlist.specs.Detection.{IsRedundant}
use Rattle.refutation.specs.Steps.{Step}
use Rattle.refutation.specs.Refutations.{Told, IsShutOff, IsSwept, LeavesNothing, Refutes}
use Rattle.refutation.specs.Ways.{AreTold}

-- Where a refutation of a fault is accepted, no pattern that obeys the held inputs detects the fault.
abbrev pub RefutedIsRedundant : Type 0
RefutedIsRedundant =
    (f : Fault) (n : Netlist) (holds : Holds) (steps : List Step) → IsSound n → Refutes f n holds steps → IsRedundant n holds f

-- Where a set shuts the fault off, no pattern whose bits the signals may have detects it.
abbrev pub ShutOffDetectsNothing : Type 0
ShutOffDetectsNothing =
    (f : Fault) (n : Netlist) (told : Told) (set : ℕ → Bool) (inputs state : List Bool) (point : Point) → IsSound n → IsShutOff n f told set
    → (seen : Detects n f inputs state point) → ¬ AreTold n told seen.good seen.faulty

-- Where a sweep leaves something it doesn't leave nothing, and it leaves nothing else.
abbrev pub OneSweep : Type 0
OneSweep =
    (f : Fault) (n : Netlist) (told swept : Told) → IsSwept n f told swept → (¬ LeavesNothing n f told) × ((other : Told) → IsSwept n f told other → other ≡ swept)
