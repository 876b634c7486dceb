use Rattle.std.proofs.Common.{◌≡◌, ◌≤◌, ap, ◌∙◌, drop, arith}
use Rattle.refutation_check.specs.inner.Trails.{undone}
use Rattle.refutation_check.proofs.sets.take_back.Goals as goal

pub returns-clause-told : goal.returns-clause-told
returns-clause-told c =
    let high = c.loop-k.invariant.high in
    let end : c.loop-k.k ≤ c.args.depth = c.loop-k-test.false in
    let len = c.len-k.ensures in
    let depth = c.requires.depth in
    let is : c.loop-k.k ≡ c.args.depth = omega arith in
    c.loop-k.invariant.told ∙ ap (λ j. undone (drop j c.args.trail.now.items) c.args.told.now.items) is
