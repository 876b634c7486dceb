-- What a check of many refutations stands on.
use Rattle.statement.specs.Patterns.{Holds}
use Rattle.statement.specs.Netlists.{Netlist}

pub record Checking : Type 0 where
  pub netlist : Netlist
  pub holds : Holds
