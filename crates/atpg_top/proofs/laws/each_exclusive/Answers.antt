use Rattle.atpg_top.proofs.Exclusive.{each_exclusive}
use Rattle.atpg_top.proofs.laws.each_exclusive.Goals as goal

pub returns : goal.returns
returns c = each_exclusive c.at_most_one.ensures c.check_exclusive.ensures c.one_log.ensures
