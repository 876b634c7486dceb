use Rattle.stil_read.proofs.FormatLemmas.{format}
use Rattle.stil_read.proofs.laws.tokens_are_of_format.Goals as goal

pub returns : goal.returns
returns c = format
