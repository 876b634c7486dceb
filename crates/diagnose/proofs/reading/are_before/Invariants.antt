use Rattle.diagnose.proofs.EndLemmas.{FirstBefore}
use Rattle.diagnose.proofs.reading.are_before.Given as goal

abbrev pub invariant-loop-place : goal.invariant-loop-place
invariant-loop-place l = FirstBefore l.end l.failures l.place
