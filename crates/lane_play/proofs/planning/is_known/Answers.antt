use Rattle.lane_play.proofs.Machines.{all_known}
use Rattle.lane_play.proofs.planning.is_known.Goals as goal

pub returns : goal.returns
returns c k low all = all_known k low c.args.value (c.is_all.ensures.all all)
