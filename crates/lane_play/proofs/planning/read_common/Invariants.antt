use Rattle.std.proofs.Common.{take}
use Rattle.lane_play.specs.inner.Shifts.{AreCommon}
use Rattle.lane_play.proofs.planning.read_common.Given as goal

abbrev pub invariant-loop-value : goal.invariant-loop-value
invariant-loop-value l = AreCommon (take l.value-index l.values) l.table.items
