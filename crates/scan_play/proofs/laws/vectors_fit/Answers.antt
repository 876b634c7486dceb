use Rattle.scan_play.proofs.Fitting.{vectors_fit}
use Rattle.scan_play.proofs.laws.vectors_fit.Goals as goal

pub returns : goal.returns
returns c n holds chains patterns cycles sound are v = vectors_fit n holds chains patterns cycles sound are v
