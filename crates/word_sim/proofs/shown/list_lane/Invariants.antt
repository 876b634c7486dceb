use Rattle.std.proofs.Common.{◌≡◌, map, take}
use Rattle.regions.specs.Side.{lane_of}
use Rattle.word_sim.specs.inner.Differences.{in_lane, shown_of}
use Rattle.word_sim.proofs.shown.list_lane.Given as goal

abbrev pub invariant-loop-change : goal.invariant-loop-change
invariant-loop-change l = l.shown.items ≡ shown_of l.first l.count (map (lane_of l.lane) l.values) (map (in_lane l.lane) (take l.change-index l.trail))
