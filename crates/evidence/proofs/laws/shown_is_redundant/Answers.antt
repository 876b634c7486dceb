use Rattle.evidence.proofs.ByKind.{shown}
use Rattle.evidence.proofs.laws.shown_is_redundant.Goals as goal

pub returns : goal.returns
returns c = shown c.closed_tree_is_redundant.ensures c.refuted_is_redundant.ensures
