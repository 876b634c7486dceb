use Rattle.std.proofs.Common.{◌≤◌, length}
use Rattle.detections.specs.inner.Counting.{AreCounted}
use Rattle.detections.specs.inner.Telling.{IsReady}
use Rattle.detections.proofs.last_few.find_few.Given as goal

abbrev pub invariant-loop-end : goal.invariant-loop-end
invariant-loop-end l = (l.end ≤ length l.patterns) × AreCounted l.core l.patterns l.most l.end l.faults l.found.times.items l.found.needed.items × IsReady l.core l.teller

abbrev pub decreases-loop-end : goal.decreases-loop-end
decreases-loop-end l = l.end
