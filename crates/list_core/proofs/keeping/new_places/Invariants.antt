use Rattle.std.proofs.Common.{◌≡◌, ℕ, ◌<◌, ◌≤◌, false, get_or, vec_len}
use Rattle.list_core.specs.Kept.{new_place}
use Rattle.list_core.proofs.keeping.new_places.Given as goal

abbrev pub invariant-loop-mark : goal.invariant-loop-mark
invariant-loop-mark l = record {
  size : vec_len l.places ≡ l.mark-index;
  small : l.next ≤ l.mark-index;
  next : l.next ≡ new_place (λ i. get_or l.marks i false) l.mark-index;
  each : (k : ℕ) → k < l.mark-index → get_or l.places.items k 0 ≡ new_place (λ i. get_or l.marks i false) k;
}
