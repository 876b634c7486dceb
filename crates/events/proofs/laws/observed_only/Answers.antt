use Rattle.events.proofs.Sources.{observed_only}
use Rattle.events.proofs.laws.observed_only.Goals as goal

pub returns : goal.returns
returns g c table f n x only = observed_only table f n x only
