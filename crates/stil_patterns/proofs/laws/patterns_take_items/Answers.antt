use Rattle.stil_patterns.proofs.SizeLemmas.{patterns_take_items}
use Rattle.stil_patterns.proofs.laws.patterns_take_items.Goals as goal

pub returns : goal.returns
returns c = patterns_take_items
