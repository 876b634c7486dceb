-- Verdicts by the new places of patterns.
use Rattle.std.specs.Prelude.{ℕ, ◌≡◌, ◌<◌, Bool, List, length, slice_index, slice_index_or, Option, Some, None}
use Rattle.statement.specs.declared.lines.Point.{Point}
use Rattle.list_core.specs.declared.verdicts.Verdict.{Verdict}
use Rattle.list_core.specs.declared.verdicts.Verdict.TheVariants.{Detected}
use Rattle.list_core.specs.Verdicts.{verdict_at}
use Rattle.list_core.specs.Kept.{new_place}

abbrev pub last_at : List (Option (ℕ × Point)) → ℕ → Option (ℕ × Point)
last_at ls class = slice_index_or ls class None

-- by its last detecting pattern, at that pattern's new place; else what it was
abbrev pub new_verdict : (ℕ → Bool) → Option (ℕ × Point) → Verdict → Verdict
new_verdict marked None v = v
new_verdict marked (Some l) v = Detected (new_place marked l.0) l.1

pub record AreRenamed (marked : ℕ → Bool) (last : List (Option (ℕ × Point))) (old new : List Verdict) : Type 0 where
  pub size : length new ≡ length old
  pub each : (class : ℕ) → class < length old → verdict_at new class ≡ new_verdict marked (last_at last class) (verdict_at old class)

-- the new place of each place
abbrev pub ArePlaces : (ℕ → Bool) → List ℕ → Type 0
ArePlaces marked places = (k : ℕ) → k < length places → slice_index places k ≡ new_place marked k
