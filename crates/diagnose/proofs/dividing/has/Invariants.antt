use Rattle.diagnose.specs.inner.Ranks.{failing}
use Rattle.diagnose.proofs.DividingLemmas.{IsNoneOf}
use Rattle.diagnose.proofs.dividing.has.Given as goal

abbrev pub invariant-loop-place : goal.invariant-loop-place
invariant-loop-place l = IsNoneOf l.lines l.place (failing l.cycle l.signal)
