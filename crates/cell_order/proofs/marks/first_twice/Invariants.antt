use Rattle.std.proofs.Common.{◌≡◌, ◌≢◌, length, take}
use Rattle.std.specs.List.{AllPairs}
use Rattle.cell_order.specs.inner.Reads.{AreMarked}
use Rattle.cell_order.proofs.marks.first_twice.Given as goal

abbrev pub invariant-loop-place : goal.invariant-loop-place
invariant-loop-place l = record {
  size : length l.marks.items ≡ l.bound;
  marked : AreMarked (take l.place l.signals) l.marks.items;
  once : AllPairs (λ x y. x ≢ y) (take l.place l.signals);
}
