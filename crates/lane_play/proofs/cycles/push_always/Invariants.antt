use Rattle.std.proofs.Common.{◌≡◌, ◌++◌, map, take}
use Rattle.lane_play.specs.inner.Lanes.{always}
use Rattle.lane_play.proofs.cycles.push_always.Given as goal

abbrev pub invariant-loop-bit : goal.invariant-loop-bit
invariant-loop-bit l = l.values.items ≡ l.initial.values.items ++ map always (take l.bit-index l.bits)
