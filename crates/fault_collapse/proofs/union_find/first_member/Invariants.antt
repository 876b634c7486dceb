use Rattle.std.proofs.Common.{◌≡◌, ◌<◌, ℕ, length}
use Rattle.fault_collapse.specs.inner.Merging.{IsForest, LeadsTo}
use Rattle.fault_collapse.proofs.union_find.first_member.Given as goal

abbrev pub invariant-loop-parents : goal.invariant-loop-parents
invariant-loop-parents l = record {
  forest : IsForest l.parents;
  within : l.at < length l.parents;
  same : (first : ℕ → ℕ) → LeadsTo l.fn.parents first → LeadsTo l.parents first;
  first : (first : ℕ → ℕ) → LeadsTo l.fn.parents first → first l.at ≡ first l.fn.member;
}

abbrev pub decreases-loop-parents : goal.decreases-loop-parents
decreases-loop-parents l = l.at
