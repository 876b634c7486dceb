use Rattle.std.proofs.Common.{arith}
use Rattle.std.proofs.lemmas.Grind.{common_steps}
use Rattle.fault_collapse.proofs.gates.sole_reader.Goals as goal

pub returns-in-Pin : goal.returns-in-Pin
returns-in-Pin c = grind (arith, common_steps)
