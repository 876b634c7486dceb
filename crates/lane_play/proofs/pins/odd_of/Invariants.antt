use Rattle.std.proofs.Common.{◌≡◌, drop}
use Rattle.lane_play.specs.inner.Lanes.{odd_of}
use Rattle.lane_play.proofs.pins.odd_of.Given as goal

abbrev pub invariant-loop-k : goal.invariant-loop-k
invariant-loop-k g l = l.odd ≡ odd_of (drop l.k (g.P.Pins.values l.pins))
