use Rattle.std.proofs.Common.{◌≡◌, ◌≤◌, length, drop}
use Rattle.refutation_check.specs.inner.Trails.{undone}
use Rattle.refutation_check.proofs.sets.take_back.Given as goal

abbrev pub invariant-loop-k : goal.invariant-loop-k
invariant-loop-k l = record {
  told : l.told.items ≡ undone (drop l.k l.trail.items) l.initial.told.items;
  size : length l.told.items ≡ length l.initial.told.items;
  high : l.depth ≤ l.k;
}
