use Rattle.std.proofs.Common.{take}
use Rattle.scan_play.specs.inner.Plans.{AreMarked}
use Rattle.scan_play.proofs.planning.are_marked.Given as goal

abbrev pub invariant-loop-x : goal.invariant-loop-x
invariant-loop-x l = AreMarked l.marks (take l.x-index l.ids)
