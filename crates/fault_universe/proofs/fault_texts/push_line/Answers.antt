use Rattle.std.proofs.Common.{arith}
use Rattle.std.proofs.lemmas.Grind.{common_steps}
use Rattle.fault_universe.proofs.fault_texts.push_line.Goals as goal

pub returns-in_ok-extend_from_slice-in-Pin-3 : goal.returns-in_ok-extend_from_slice-in-Pin-3
returns-in_ok-extend_from_slice-in-Pin-3 c = grind (arith, common_steps)
