use Rattle.std.proofs.Common.{◌≡◌, length, subst, arith}
use Rattle.lane_play.specs.inner.Apart.{AreInLeg}
use Rattle.lane_play.proofs.legs.play_leg.Goals as goal

pub returns : goal.returns
returns g c =
    let machines = c.loop-start.machines in
    let within = c.loop-start.invariant.within in
    let last = c.loop-start-test.false in
    let same : c.loop-start.start ≡ length machines = omega arith in
    subst (λ k. AreInLeg (g.J.Judge.says c.args.leg.now.judge.now) c.args.leg.now.faults.now c.args.leg.now.core.now c.args.leg.now.played.now c.args.leg.now.bursts.now k machines) same c.loop-start.invariant.apart
