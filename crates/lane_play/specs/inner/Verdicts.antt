-- What is said of each machine.
use Rattle.std.specs.Prelude.{ℕ, ◌≡◌, ◌<◌, Bool, true, false, List, length, slice_index_or, Option, Some, None}
use Rattle.statement.specs.declared.kinds.Tri.{Tri}
use Rattle.statement.specs.declared.kinds.Tri.TheVariants.{Zero, One, X}
use Rattle.scan_play.specs.declared.played.Played.{Played}
use Rattle.scan_play.specs.Judging.{Judging, judged_in, played_or_else}
use Rattle.lane_play.specs.declared.bits.Bits.{Bits}
use Rattle.lane_play.specs.declared.packed.Lanes.{Lanes}
use Rattle.lane_play.specs.inner.Bits.{bit_in}
use Rattle.lane_play.specs.inner.Lanes.{lane, lanes}

-- nothing was said
abbrev pub is_open : Option Played → Bool
is_open None = true
is_open (Some p) = false

-- what was said of machine k
abbrev pub found_at : List (Option Played) → ℕ → Option Played
found_at found k = slice_index_or found k None

-- a bit for each of the first m machines of which nothing was said
abbrev pub AreLeft : List (Option Played) → ℕ → Bits → Type 0
AreLeft found m left = (k : ℕ) → k < m → bit_in k left ≡ is_open (found_at found k)

-- what is said of a value, where it is this of 0, of 1 and of X
abbrev pub said_of : Option Played → Option Played → Option Played → Tri → Option Played
said_of zero one unknown Zero = zero
said_of zero one unknown One = one
said_of zero one unknown X = unknown

-- at a strobe each machine of which nothing was said has this said of the value that it shows
pub record AreSaid (say : Tri → Option Played) (shown : Lanes) (old new : List (Option Played)) : Type 0 where
  pub size : length new ≡ length old
  pub each : (k : ℕ) → k < length old → found_at new k ≡ played_or_else (found_at old k) (say (lane k shown))

-- the same in a cycle
pub record AreJudgedIn (says : Judging) (cycle : ℕ) (strobes : List Tri) (shown : List Lanes) (old new : List (Option Played)) : Type 0 where
  pub size : length new ≡ length old
  pub each : (k : ℕ) → k < length old → found_at new k ≡ played_or_else (found_at old k) (judged_in says cycle 0 strobes (lanes k shown))
