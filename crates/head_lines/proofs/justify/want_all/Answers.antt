use Rattle.std.proofs.Common.{◌≡◌, ◌+◌, ◌≤◌, length, ap, subst, arith}
use Rattle.head_lines.specs.inner.Wanting.{AreWantedUpTo}
use Rattle.head_lines.proofs.justify.want_all.Goals as goal

pub loop-next-smaller : goal.loop-next-smaller
loop-next-smaller c =
    let w = c.loop-next.invariant in
    let size = w.size in
    let counted = w.queue_is.counted in
    let l = c.loop-next-test.true in
    omega arith

pub returns : goal.returns
returns c =
    let w = c.loop-next.invariant in
    let within = w.within in
    let out = c.loop-next-test.false in
    subst (AreWantedUpTo c.args.fault.now c.args.core.now c.args.holds.now c.args.labels.now.path c.loop-next.wants.items c.loop-next.queue.items) (omega arith) w
