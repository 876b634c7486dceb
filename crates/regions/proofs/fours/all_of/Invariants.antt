use Rattle.std.proofs.Common.{◌≡◌, drop}
use Rattle.events.specs.Words.{all_of}
use Rattle.regions.specs.Side.{lane_by_lane}
use Rattle.regions.proofs.fours.all_of.Given as goal

abbrev pub invariant-loop-k : goal.invariant-loop-k
invariant-loop-k g l = l.all ≡ lane_by_lane all_of (drop l.k (g.P.FourPins.fours l.pins))
