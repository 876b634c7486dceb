-- What a report speaks of.
use Rattle.std.specs.Prelude.{◌≡◌}
use Rattle.statement.specs.Netlists.{Netlist}
use Rattle.statement.specs.Faults.{universe_of}
use Rattle.fault_collapse.specs.Classes.{AreClasses}
use Rattle.run_report.specs.declared.subjects.Subject.{Subject}

-- all faults of a netlist, and their classes
pub record IsSubjectOf (n : Netlist) (s : Subject) : Type 0 where
  pub faults : s.faults ≡ universe_of n
  pub classes : AreClasses n s.classes
