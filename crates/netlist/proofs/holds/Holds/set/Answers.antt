use Rattle.std.proofs.Common.{rules}
use Rattle.netlist.proofs.holds.Holds.set.Goals as goal

pub returns : goal.returns
returns c = search rules
