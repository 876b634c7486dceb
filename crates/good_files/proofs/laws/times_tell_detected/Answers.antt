use Rattle.good_files.proofs.TimesTold.{told_at}
use Rattle.good_files.proofs.laws.times_tell_detected.Goals as goal

pub returns : goal.returns
returns c files contents good some place f at = told_at contents.netlist good.tested.patterns contents.said.times good.totals.head.times some place f at
