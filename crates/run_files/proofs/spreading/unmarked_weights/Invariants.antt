use Rattle.std.proofs.Common.{◌≡◌, ◌++◌, drop}
use Rattle.run_files.specs.inner.Spread.{unmarked_weights}
use Rattle.run_files.proofs.spreading.unmarked_weights.Given as goal

abbrev pub invariant-loop-k : goal.invariant-loop-k
invariant-loop-k l = l.left.items ++ unmarked_weights (drop l.k l.marks) (drop l.k l.weights) ≡ unmarked_weights l.marks l.weights
