use Rattle.std.proofs.Common.{◌≡◌, ◌++◌, ◌∷◌, [], Some, set, sym, subst}
use Rattle.head_lines.specs.inner.Wanting.{IsQueue}
use Rattle.head_lines.proofs.Wanting.{queue_put}
use Rattle.head_lines.proofs.wants.want.Goals as goal

pub returns-in_ok-push-in-Some-clause-queue : goal.returns-in_ok-push-in-Some-clause-queue
returns-in_ok-push-in-Some-clause-queue c =
    let row = c.args.wants.now.items in
    let at : c.index.result ≡ c.args.id = c.index.ensures in
    subst (λ i. IsQueue (set row i (Some c.in-Some.bit)) c.push.new.self.items) (sym at)
    (subst (IsQueue (set row c.args.id (Some c.in-Some.bit))) (sym c.in_ok-push-in-Some.ensures.items)
    (queue_put row c.args.queue.now.items c.args.id c.in-Some.bit c.requires.queue c.requires.none c.requires.below))
