use Rattle.std.proofs.Common.{◌≡◌, take}
use Rattle.lane_play.specs.inner.Lanes.{lanes}
use Rattle.lane_play.proofs.packing.unpack.Given as goal

abbrev pub invariant-loop-value : goal.invariant-loop-value
invariant-loop-value l = l.own.items ≡ lanes l.k (take l.value-index l.state)
