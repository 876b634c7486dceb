use Rattle.std.proofs.Common.{ap, arith, length}
use Rattle.word_sim.specs.Hits.{Batch}
use Rattle.worker.proofs.WorkLemmas.{true_batch}
use Rattle.worker.proofs.publishing.batch_with.Goals as goal

pub returns-clause-len : goal.returns-clause-len
returns-clause-len g c = omega (arith, ap (λ (b : Batch). length b.patterns) c.new.ensures, c.args.patterns.ok.0)

pub returns-clause-true_batch : goal.returns-clause-true_batch
returns-clause-true_batch g c =
    rw c.new.ensures (true_batch g.J.About.subject c.args.patterns.items c.args.left.now c.args.hits.items c.requires.wide c.requires.represent c.requires.ascend c.requires.hits)
