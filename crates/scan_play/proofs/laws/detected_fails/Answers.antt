use Rattle.scan_play.proofs.BitLaws.{detected_fails}
use Rattle.scan_play.proofs.laws.detected_fails.Goals as goal

pub returns : goal.returns
returns c n holds chains patterns cycles f p pattern point k o sound are v line at_p t at =
    detected_fails n holds chains patterns cycles f p pattern point k o sound are v line at_p t at
