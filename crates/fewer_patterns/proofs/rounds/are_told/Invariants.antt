use Rattle.std.proofs.Common.{◌≡◌, ◌<◌, ℕ, true, None, slice_index_or}
use Rattle.fewer_patterns.specs.inner.Enough.{is_told}
use Rattle.fewer_patterns.proofs.rounds.are_told.Given as goal

abbrev pub invariant-loop-k : goal.invariant-loop-k
invariant-loop-k l = (j : ℕ) → j < l.k → is_told (slice_index_or l.last j None) ≡ true
