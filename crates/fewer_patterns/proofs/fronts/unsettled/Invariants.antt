use Rattle.std.proofs.Common.{◌≡◌, ◌++◌, drop}
use Rattle.fewer_patterns.specs.inner.Joined.{unsettled}
use Rattle.fewer_patterns.proofs.fronts.unsettled.Given as goal

abbrev pub invariant-loop-k : goal.invariant-loop-k
invariant-loop-k l = l.told.items ++ unsettled l.fn.start (drop l.k l.last) ≡ unsettled l.fn.start l.last
