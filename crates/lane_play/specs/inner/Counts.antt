-- What is added to the counts of machines.
use Rattle.std.specs.Prelude.{ℕ, ◌≡◌, ◌+◌, ◌<◌, Bool, List, length, slice_index_or}
use Rattle.statement.specs.declared.kinds.Tri.{Tri}
use Rattle.lane_play.specs.Counted.{Counting, counted_in, one_if}
use Rattle.lane_play.specs.declared.packed.Lanes.{Lanes}
use Rattle.lane_play.specs.inner.Lanes.{lane, lanes}

-- the count of machine k
abbrev pub number_at : List ℕ → ℕ → ℕ
number_at numbers k = slice_index_or numbers k 0

-- one more for each machine whose value counts
pub record AreMore (counts : Tri → Bool) (shown : Lanes) (old new : List ℕ) : Type 0 where
  pub size : length new ≡ length old
  pub each : (k : ℕ) → k < length old → number_at new k ≡ number_at old k + one_if (counts (lane k shown))

-- the same of a row
pub record AreMoreIn (counts : Counting) (cycle : ℕ) (strobes : List Tri) (shown : List Lanes) (old new : List ℕ) : Type 0 where
  pub size : length new ≡ length old
  pub each : (k : ℕ) → k < length old → number_at new k ≡ number_at old k + counted_in counts cycle 0 strobes (lanes k shown)
