use Rattle.stil_read.proofs.ReadLemmas.{written_stands}
use Rattle.stil_read.proofs.laws.written_stands.Goals as goal

pub returns : goal.returns
returns c = written_stands
