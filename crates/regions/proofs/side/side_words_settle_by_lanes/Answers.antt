use Rattle.regions.proofs.SideGates.{side_settles}
use Rattle.regions.proofs.side.side_words_settle_by_lanes.Goals as goal

pub returns : goal.returns
returns c = side_settles
