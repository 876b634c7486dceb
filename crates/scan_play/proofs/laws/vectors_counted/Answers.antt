use Rattle.scan_play.proofs.Fitting.{vectors_counted}
use Rattle.scan_play.proofs.laws.vectors_counted.Goals as goal

pub returns : goal.returns
returns c n holds chains patterns cycles v = vectors_counted n holds chains patterns cycles v
