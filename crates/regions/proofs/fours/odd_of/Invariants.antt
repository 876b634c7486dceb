use Rattle.std.proofs.Common.{◌≡◌, drop}
use Rattle.events.specs.Words.{odd_of}
use Rattle.regions.specs.Side.{lane_by_lane}
use Rattle.regions.proofs.fours.odd_of.Given as goal

abbrev pub invariant-loop-k : goal.invariant-loop-k
invariant-loop-k g l = l.odd ≡ lane_by_lane odd_of (drop l.k (g.P.FourPins.fours l.pins))
