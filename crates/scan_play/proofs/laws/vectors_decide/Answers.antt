use Rattle.scan_play.proofs.TriLaws.{vectors_decide}
use Rattle.scan_play.proofs.laws.vectors_decide.Goals as goal

pub returns : goal.returns
returns c n holds chains patterns cycles sound are v = vectors_decide n holds chains patterns cycles sound are v
