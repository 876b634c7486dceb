use Rattle.std.proofs.Common.{◌≡◌, false, get_or, length}
use Rattle.list_core.specs.Kept.{kept_from}
use Rattle.list_core.proofs.keeping.kept.Given as goal

abbrev pub invariant-loop-item : goal.invariant-loop-item
invariant-loop-item g l = record {
  count : l.place ≡ length l.yielded;
  items : l.left.items ≡ kept_from (λ i. get_or l.marks i false) 0 l.yielded;
}
