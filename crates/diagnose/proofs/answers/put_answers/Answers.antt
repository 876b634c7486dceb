use Rattle.std.proofs.Common.{◌+◌, set, subst, sym}
use Rattle.diagnose.specs.inner.Answers.{ArePut}
use Rattle.diagnose.proofs.Batches.{one_put}
use Rattle.diagnose.proofs.answers.put_answers.Goals as goal

pub loop-k-preserved : goal.loop-k-preserved
loop-k-preserved c =
    let said = c.args.said.now in
    let start = c.args.start in
    let k = c.loop-k.k in
    subst (λ a. ArePut said start (k + 1) c.args.answers.now (set c.loop-k.answers (start + k) a)) (sym c.answer_to.ensures)
    (one_put said start k c.args.answers.now c.loop-k.answers _ c.loop-k-test.true c.requires c.loop-k.invariant)
