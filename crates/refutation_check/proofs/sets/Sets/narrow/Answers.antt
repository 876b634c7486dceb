use Rattle.refutation_check.proofs.Touches.{touched_put}
use Rattle.refutation_check.proofs.TrailLemmas.{grows_by}
use Rattle.refutation_check.proofs.sets.Sets.narrow.Goals as goal

pub returns-clause-grows : goal.returns-clause-grows
returns-clause-grows c =
    grows_by c.put.result c.args.self.now c.put.new.self c.args.literal.now.signal c.meet.result c.put.ensures.ok c.put.ensures.err

pub returns-clause-touched : goal.returns-clause-touched
returns-clause-touched c = touched_put c.put.result c.args.self.now c.put.new.self c.args.literal.now.signal c.meet.result c.put.ensures.ok
