use Rattle.slow_check.specs.inner.Walking.{AreTrueBelow}
use Rattle.slow_check.proofs.walking.first_untrue.Given as goal

abbrev pub invariant-loop-place : goal.invariant-loop-place
invariant-loop-place l = AreTrueBelow l.walk l.place
