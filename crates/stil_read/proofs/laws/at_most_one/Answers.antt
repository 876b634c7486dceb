use Rattle.stil_read.proofs.ReadLemmas.{at_most_one}
use Rattle.stil_read.proofs.laws.at_most_one.Goals as goal

pub returns : goal.returns
returns c = at_most_one
