use Rattle.scan_play.proofs.TriLaws.{strobes_known}
use Rattle.scan_play.proofs.laws.strobes_known.Goals as goal

pub returns : goal.returns
returns c n holds chains patterns cycles f shown sound are v valid run = strobes_known n holds chains patterns cycles f shown sound are v valid run
