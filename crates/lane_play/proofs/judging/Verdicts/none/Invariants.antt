use Rattle.std.proofs.Common.{◌≡◌, None, replicate}
use Rattle.lane_play.proofs.judging.Verdicts.none.Given as goal

abbrev pub invariant-loop-done : goal.invariant-loop-done
invariant-loop-done l = l.found.items ≡ replicate l._done None
