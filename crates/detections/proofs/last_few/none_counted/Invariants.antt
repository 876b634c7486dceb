use Rattle.std.proofs.Common.{◌≡◌, replicate}
use Rattle.detections.proofs.last_few.none_counted.Given as goal

abbrev pub invariant-loop-done : goal.invariant-loop-done
invariant-loop-done l = l.times.items ≡ replicate l._done 0
