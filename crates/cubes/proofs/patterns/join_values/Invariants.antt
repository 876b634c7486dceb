use Rattle.std.proofs.Common.{◌≡◌, ℕ, ◌<◌, ◌≤◌, length}
use Rattle.std.specs.List.{slice_index_or}
use Rattle.statement.specs.declared.kinds.Tri.TheVariants.{X}
use Rattle.cubes.specs.inner.Joining.{join}
use Rattle.cubes.proofs.patterns.join_values.Given as goal

abbrev pub invariant-loop-k : goal.invariant-loop-k
invariant-loop-k l = record {
  size : length l.values.items ≡ length l.initial.values.items;
  done : (j : ℕ) → j < l.k → slice_index_or l.values.items j X ≡ join (slice_index_or l.initial.values.items j X) (slice_index_or l.others j X);
  left : (j : ℕ) → l.k ≤ j → slice_index_or l.values.items j X ≡ slice_index_or l.initial.values.items j X;
}
