use Rattle.scan_play.proofs.BitLaws.{undetected_passes}
use Rattle.scan_play.proofs.laws.undetected_passes.Goals as goal

pub returns : goal.returns
returns c n holds chains patterns cycles f sound are v line undetected = undetected_passes n holds chains patterns cycles f sound are v line undetected
