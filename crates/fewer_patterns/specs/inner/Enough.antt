-- Patterns that detect each of some faults.
use Rattle.std.specs.Prelude.{ℕ, ◌≡◌, ◌<◌, ◌≤◌, Bool, true, false, nat_le, List, Option, Some, None, length, slice_index_or}
use Rattle.std.specs.List.{All, AllZip}
use Rattle.statement.specs.declared.lines.Fault.{Fault}
use Rattle.statement.specs.declared.lines.Point.{Point}
use Rattle.statement.specs.Netlists.{Netlist}
use Rattle.statement.specs.Patterns.{Holds, Pattern}
use Rattle.cubes.specs.Cubes.{IsPatternOf}
use Rattle.word_sim.specs.Hits.{LastDetected}

-- it was told where a fault is detected
abbrev pub is_told : Option (ℕ × Point) → Bool
is_told None = false
is_told (Some one) = true

abbrev pub AllTold : List (Option (ℕ × Point)) → Type 0
AllTold last = (k : ℕ) → k < length last → is_told (slice_index_or last k None) ≡ true

-- A pattern from this place on is the last that detects it, or none does: the patterns before needn't detect it.
abbrev pub is_settled : ℕ → Option (ℕ × Point) → Bool
is_settled start None = true
is_settled start (Some one) = nat_le start one.0

-- Patterns of the netlist that obey the held inputs, at most so many, and where they last detect these faults: each of them.
pub record AreEnough (n : Netlist) (holds : Holds) (faults : List Fault) (most : ℕ) (patterns : List Pattern) (last : List (Option (ℕ × Point))) : Type 0 where
  pub obey : All (IsPatternOf n holds) patterns
  pub few : length patterns ≤ most
  pub detect : AllZip (LastDetected n patterns) faults last
  pub told : AllTold last
