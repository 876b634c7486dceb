-- The slow lines of a design.
use Rattle.std.specs.Prelude.{◌≡◌, List}
use Rattle.statement.specs.declared.lines.Fault.{Fault}
use Rattle.statement.specs.Netlists.{Netlist}
use Rattle.statement.specs.Patterns.{Holds}
use Rattle.statement.specs.Faults.{universe_of}
use Rattle.netlist.specs.Designs.{IsDesign}
use Rattle.netlist.specs.Holds.{AreHoldsOf}

-- all transition faults of a design that has such held inputs
pub record AreSlowLines (n : Netlist) (holds : Holds) (faults : List Fault) : Type 0 where
  pub design : IsDesign n
  pub held : AreHoldsOf n holds
  pub all : faults ≡ universe_of n
