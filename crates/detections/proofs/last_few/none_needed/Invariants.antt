use Rattle.std.proofs.Common.{◌≡◌, false, replicate}
use Rattle.detections.proofs.last_few.none_needed.Given as goal

abbrev pub invariant-loop-done : goal.invariant-loop-done
invariant-loop-done l = l.needed.items ≡ replicate l._done false
