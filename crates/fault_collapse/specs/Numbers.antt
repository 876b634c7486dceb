-- What classes of faults are seen as.
use Rattle.std.specs.Prelude.{ℕ, List}
use Rattle.statement.specs.declared.lines.Fault.{Fault}

-- the class of each fault, and the representative of each class
pub record Classes : Type 0 where
  pub numbers : List ℕ
  pub representatives : List Fault
