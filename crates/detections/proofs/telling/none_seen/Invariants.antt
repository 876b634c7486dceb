use Rattle.std.proofs.Common.{◌≡◌, length}
use Rattle.detections.proofs.telling.none_seen.Given as goal

abbrev pub invariant-loop-done : goal.invariant-loop-done
invariant-loop-done l = length l.seen.items ≡ l._done
