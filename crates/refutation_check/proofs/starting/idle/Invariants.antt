use Rattle.std.proofs.Common.{◌≡◌, map, take}
use Rattle.statement.specs.Netlists.{signals}
use Rattle.refutation_check.specs.inner.Starting.{own}
use Rattle.refutation_check.proofs.starting.idle.Given as goal

abbrev pub invariant-loop-x : goal.invariant-loop-x
invariant-loop-x l = l.told.items ≡ map (own l.holds) (take l.x (signals l.core))
