use Rattle.grade.specs.inner.Keys.{AreLeastKeys}
use Rattle.grade.proofs.keys.least_keys.Given as goal

abbrev pub invariant-loop-number : goal.invariant-loop-number
invariant-loop-number l = AreLeastKeys l.core l.chains l.number l.keys.items
