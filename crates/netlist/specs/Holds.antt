-- No input is held.
use Rattle.std.specs.Prelude.{◌≡◌, map, length, None}
use Rattle.statement.specs.Patterns.{Holds}
use Rattle.statement.specs.Netlists.{Netlist}

abbrev pub AreHoldsOf : Netlist → Holds → Type 0
AreHoldsOf n holds = length holds ≡ length n.inputs

abbrev pub none_held : Netlist → Holds
none_held n = map (λ _. None) n.inputs
