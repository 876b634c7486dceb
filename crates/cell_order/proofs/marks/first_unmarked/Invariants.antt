use Rattle.std.proofs.Common.{◌≡◌, true, take}
use Rattle.std.specs.List.{All}
use Rattle.cell_order.specs.inner.Reads.{is_marked}
use Rattle.cell_order.proofs.marks.first_unmarked.Given as goal

abbrev pub invariant-loop-place : goal.invariant-loop-place
invariant-loop-place l = All (λ x. is_marked l.marks x ≡ true) (take l.place l.signals)
