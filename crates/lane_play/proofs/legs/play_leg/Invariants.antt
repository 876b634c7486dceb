use Rattle.std.proofs.Common.{◌≤◌, ◌-◌, length}
use Rattle.lane_play.specs.inner.Apart.{AreInLeg}
use Rattle.lane_play.proofs.legs.play_leg.Given as goal

abbrev pub invariant-loop-start : goal.invariant-loop-start
invariant-loop-start g l = record {
  within : l.start ≤ length l.machines;
  apart : AreInLeg (g.J.Judge.says l.leg.judge.now) l.leg.faults.now l.leg.core.now l.leg.played.now l.leg.bursts.now l.start l.machines;
}

abbrev pub decreases-loop-start : goal.decreases-loop-start
decreases-loop-start g l = length l.machines - l.start
