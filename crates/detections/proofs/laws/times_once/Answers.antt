use Rattle.detections.proofs.Counts.{times_once}
use Rattle.detections.proofs.laws.times_once.Goals as goal

pub returns : goal.returns
returns g n patterns most f a b h k = times_once n patterns most f a b h k
