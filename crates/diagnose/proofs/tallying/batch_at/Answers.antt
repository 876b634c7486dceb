use Rattle.diagnose.proofs.TallyLemmas.{batch_taken}
use Rattle.diagnose.proofs.tallying.batch_at.Goals as goal

pub returns-clause-batch : goal.returns-clause-batch
returns-clause-batch c = batch_taken c.args.suspects.now c.args.start c.min-count.result c.min-count.ensures
