use Rattle.fault_universe.proofs.Sizes.{fault_bound}
use Rattle.fault_universe.proofs.laws.few_faults.Goals as goal

pub returns : goal.returns
returns c n sound = fault_bound n sound
