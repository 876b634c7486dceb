use Rattle.stil_patterns.proofs.OnceLemmas.{one_file}
use Rattle.stil_patterns.proofs.laws.one_file.Goals as goal

pub returns : goal.returns
returns c = one_file
