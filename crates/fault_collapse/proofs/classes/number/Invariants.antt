use Rattle.std.proofs.Common.{◌≡◌, ◌≤◌, ℕ, vec_len}
use Rattle.fault_collapse.specs.inner.Merging.{AreNumbered, LeadsTo}
use Rattle.fault_collapse.proofs.classes.number.Given as goal

abbrev pub invariant-loop-i : goal.invariant-loop-i
invariant-loop-i l = record {
  size : vec_len l.numbers ≡ l.i;
  few : vec_len l.representatives ≤ l.i;
  numbered : (first : ℕ → ℕ) → LeadsTo l.parents first → AreNumbered l.faults first l.numbers.items l.representatives.items l.i;
}
