use Rattle.scan_play.proofs.BitLaws.{good_passes}
use Rattle.scan_play.proofs.laws.good_passes.Goals as goal

pub returns : goal.returns
returns c n holds chains patterns cycles sound are v = good_passes n holds chains patterns cycles sound are v
