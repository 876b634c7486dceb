use Rattle.std.proofs.Common.{◌≡◌, ℕ, false, get_or, take, vec_len}
use Rattle.list_core.specs.Kept.{is_last_at}
use Rattle.list_core.proofs.compaction.needed.Given as goal

abbrev pub invariant-loop-class : goal.invariant-loop-class
invariant-loop-class l = record {
  size : vec_len l.marks ≡ l.places;
  marks : (k : ℕ) → get_or l.marks.items k false ≡ is_last_at (take l.class-index l.last) k;
}
