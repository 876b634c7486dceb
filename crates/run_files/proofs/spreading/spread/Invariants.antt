use Rattle.std.proofs.Common.{◌≡◌, ◌++◌, drop}
use Rattle.std.specs.Vec.Iter.{into_iter_items}
use Rattle.run_files.specs.inner.Spread.{spread}
use Rattle.run_files.proofs.spreading.spread.Given as goal

abbrev pub invariant-loop-marked : goal.invariant-loop-marked
invariant-loop-marked l = l.all.items ++ spread (drop l.marked-index l.marks) (into_iter_items l.rest) ≡ spread l.marks l.fn.verdicts.items
