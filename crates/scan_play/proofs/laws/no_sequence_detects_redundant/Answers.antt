use Rattle.scan_play.proofs.Redundant.{no_sequence_detects}
use Rattle.scan_play.proofs.laws.no_sequence_detects_redundant.Goals as goal

pub returns : goal.returns
returns c n holds chains f state cycles shown shown' sound fit are line redundant all p q = no_sequence_detects n holds chains f state cycles shown shown' sound fit are line redundant all p q
