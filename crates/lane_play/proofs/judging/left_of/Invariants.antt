use Rattle.lane_play.specs.inner.Verdicts.{AreLeft}
use Rattle.lane_play.proofs.judging.left_of.Given as goal

abbrev pub invariant-loop-k : goal.invariant-loop-k
invariant-loop-k l = AreLeft l.found l.k l.left
