use Rattle.std.proofs.Common.{◌≡◌, drop}
use Rattle.lane_play.specs.inner.Lanes.{some_of}
use Rattle.lane_play.proofs.pins.some_of.Given as goal

abbrev pub invariant-loop-k : goal.invariant-loop-k
invariant-loop-k g l = l.some ≡ some_of (drop l.k (g.P.Pins.values l.pins))
