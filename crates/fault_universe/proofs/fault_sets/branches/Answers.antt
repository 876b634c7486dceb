use Rattle.std.proofs.Common.{rules}
use Rattle.fault_universe.proofs.fault_sets.branches.Goals as goal

pub returns-else-readers-ge2 : goal.returns-else-readers-ge2
returns-else-readers-ge2 c = search rules
