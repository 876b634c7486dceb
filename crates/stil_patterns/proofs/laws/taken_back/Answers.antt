use Rattle.stil_patterns.proofs.BackLemmas.{taken_back}
use Rattle.stil_patterns.proofs.laws.taken_back.Goals as goal

pub returns : goal.returns
returns c = taken_back
