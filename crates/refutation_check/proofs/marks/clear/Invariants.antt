use Rattle.std.proofs.Common.{◌≡◌, ℕ, true, length, drop}
use Rattle.std.specs.List.{Contains}
use Rattle.refutation_check.specs.inner.Marks.{is_marked}
use Rattle.refutation_check.proofs.marks.clear.Given as goal

abbrev pub invariant-loop-k : goal.invariant-loop-k
invariant-loop-k l = record {
  size : length l.marks.items ≡ length l.initial.marks.items;
  left : (x : ℕ) → is_marked l.marks.items x ≡ true → Contains (drop l.k l.list.items) x;
}
