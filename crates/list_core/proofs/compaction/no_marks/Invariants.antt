use Rattle.std.proofs.Common.{◌≡◌, ℕ, false, get_or, vec_len}
use Rattle.list_core.proofs.compaction.no_marks.Given as goal

abbrev pub invariant-loop-place : goal.invariant-loop-place
invariant-loop-place l = record {
  size : vec_len l.marks ≡ l._place;
  none : (k : ℕ) → get_or l.marks.items k false ≡ false;
}
