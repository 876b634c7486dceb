use Rattle.std.proofs.Common.{◌≡◌, length, vec_len}
use Rattle.head_lines.specs.inner.Wanting.{AreWantedIn}
use Rattle.head_lines.proofs.wants.forget.Given as goal

abbrev pub invariant-loop-id : goal.invariant-loop-id
invariant-loop-id l = (length l.wants.items ≡ length l.initial.wants.items) × AreWantedIn l.wants.items l.queue.items

abbrev pub decreases-loop-id : goal.decreases-loop-id
decreases-loop-id l = vec_len l.queue
