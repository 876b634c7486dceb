use Rattle.fewer_patterns.proofs.Joining.{others_next}
use Rattle.fewer_patterns.proofs.fronts.next_of.Goals as goal

pub returns-clause-others : goal.returns-clause-others
returns-clause-others c = others_next c.args.told.now c.args.next
