use Rattle.stil_patterns.proofs.PickLemmas.{picks_patterns}
use Rattle.stil_patterns.proofs.laws.picks_patterns.Goals as goal

pub returns : goal.returns
returns c = picks_patterns
