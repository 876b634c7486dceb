use Rattle.detections.specs.inner.Counting.{AreCountedUpTo}
use Rattle.detections.specs.inner.Telling.{CanTell}
use Rattle.detections.proofs.last_few.count_part.Given as goal

abbrev pub invariant-loop-k : goal.invariant-loop-k
invariant-loop-k l = AreCountedUpTo l.core l.patterns l.most l.start l.end l.faults l.found.times.items l.found.needed.items l.k × CanTell l.core l.part l.teller
