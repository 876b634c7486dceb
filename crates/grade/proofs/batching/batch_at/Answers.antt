use Rattle.grade.proofs.Lists.{batch_taken}
use Rattle.grade.proofs.batching.batch_at.Goals as goal

pub returns : goal.returns
returns g c = batch_taken c.args.items.now c.args.start c.args.most c.min-count.result c.requires c.min-count.ensures
