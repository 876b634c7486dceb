use Rattle.std.proofs.Common.{ap, length, arith}
use Rattle.fault_universe.proofs.FaultLists.{length-faults}
use Rattle.fault_universe.proofs.fault_sets.FaultSet.len.Goals as goal

pub returns : goal.returns
returns c = let h = length-faults c.self.inside.lines.items in let e = ap length c.self.view_is in omega arith
