use Rattle.std.proofs.Common.{take}
use Rattle.lane_play.specs.inner.Apart.{AreLines}
use Rattle.lane_play.proofs.packing.lines_of.Given as goal

abbrev pub invariant-loop-place : goal.invariant-loop-place
invariant-loop-place l = AreLines l.faults (take l.place-index l.places) l.lines.items
