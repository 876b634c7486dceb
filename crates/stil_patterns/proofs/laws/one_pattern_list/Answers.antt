use Rattle.stil_patterns.proofs.OnceLemmas.{one_pattern_list}
use Rattle.stil_patterns.proofs.laws.one_pattern_list.Goals as goal

pub returns : goal.returns
returns c = one_pattern_list
