use Rattle.lane_play.specs.inner.Verdicts.{said_of}
use Rattle.lane_play.proofs.VerdictLemmas.{IsTakenDown}
use Rattle.lane_play.proofs.judging.take_down.Given as goal

abbrev pub invariant-loop-k : goal.invariant-loop-k
invariant-loop-k l = IsTakenDown (said_of l.fn.sayings.zero l.fn.sayings.one l.fn.sayings.unknown) l.fn.shown l.k l.initial.found.items l.found.items
