use Rattle.scan_play.proofs.Obeying.{vectors_obey}
use Rattle.scan_play.proofs.laws.vectors_obey.Goals as goal

pub returns : goal.returns
returns c n holds chains patterns cycles v obey = vectors_obey n holds chains patterns cycles v obey
