use Rattle.netlist.proofs.SomeSettled.{some_settled}
use Rattle.netlist.proofs.laws.some_settles.Goals as goal

pub returns : goal.returns
returns g c blank rule n inputs state numbered closed acyclic i s = some_settled blank rule n inputs state numbered closed acyclic i s
