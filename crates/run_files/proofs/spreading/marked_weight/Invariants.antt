use Rattle.std.proofs.Common.{◌≡◌, ◌+◌, ◌*◌, ◌≤◌, drop}
use Rattle.run_files.specs.inner.Spread.{marked_weight}
use Rattle.run_files.proofs.spreading.marked_weight.Given as goal

abbrev pub invariant-loop-k : goal.invariant-loop-k
invariant-loop-k l = record {
  so_far : l.weight + marked_weight (drop l.k l.marks) (drop l.k l.weights) ≡ marked_weight l.marks l.weights;
  fits : l.weight ≤ l.k * 4294967296;
}
