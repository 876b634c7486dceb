use Rattle.std.proofs.Common.{◌≤◌, ◌-◌, [], length, take}
use Rattle.lane_play.specs.inner.Apart.{AreInLeg}
use Rattle.lane_play.proofs.legs.play_lanes.Given as goal

abbrev pub invariant-loop-from : goal.invariant-loop-from
invariant-loop-from g l = record {
  within : l.from ≤ length l.bursts;
  apart : AreInLeg (g.J.Judge.says l.judge) l.faults l.core (take l.from l.bursts) [] 0 l.machines.items;
}

abbrev pub decreases-loop-from : goal.decreases-loop-from
decreases-loop-from g l = length l.bursts - l.from
