-- What may be written of a netlist: signals that it has, and an equation of these.
use Rattle.std.specs.Prelude.{ℕ, ◌<◌, List, length}
use Rattle.std.specs.List.{All}
use Rattle.statement.specs.Netlists.{Netlist, Definition, signals}

abbrev pub AreSignals : Netlist → List ℕ → Type 0
AreSignals n ids = All (λ x. x < length (signals n)) ids

pub record IsWritable (n : Netlist) (d : Definition) : Type 0 where
  pub id : d.id < length (signals n)
  pub pins : AreSignals n d.pins
