use Rattle.std.proofs.Common.{◌≡◌, ◌≤◌, length}
use Rattle.word_sim.specs.inner.Found.{AreFrom}
use Rattle.word_sim.proofs.last_detected.tell_parts.Given as goal

abbrev pub invariant-loop-end : goal.invariant-loop-end
invariant-loop-end l = (l.end ≤ length l.patterns) × AreFrom l.initial.simulator l.patterns l.end l.faults l.told.items × (l.simulator ≡ l.initial.simulator)

abbrev pub decreases-loop-end : goal.decreases-loop-end
decreases-loop-end l = l.end
