-- Patterns of which so many detect each fault, and the verdicts by them.
use Rattle.std.specs.Prelude.{ℕ, Bool, false, ◌≡◌, ◌≢◌, ◌+◌, ◌<◌, ◌≤◌, ◌^◌, ◌⊎◌, List, length, Option, Some, None, slice_index_or}
use Rattle.std.specs.List.{All, AllPairs, AllZip, Contains, slice_get}
use Rattle.statement.specs.declared.lines.Fault.{Fault}
use Rattle.statement.specs.declared.lines.Point.{Point}
use Rattle.statement.specs.Netlists.{Netlist}
use Rattle.statement.specs.Patterns.{Holds, Pattern, IsDetectedAt}
use Rattle.cubes.specs.Cubes.{IsPatternOf}
use Rattle.word_sim.specs.Hits.{IsNeverDetected, LastDetected}
use Rattle.detections.specs.Times.{AreNeededMarks, IsNeededFor}
use Rattle.list_core.specs.Finished.{IsFinished, IsLastTold}
use Rattle.list_core.specs.Kept.{kept_from}
use Rattle.list_core.specs.declared.verdicts.Verdict.{Verdict}
use Rattle.list_core.specs.declared.verdicts.Verdict.TheVariants.{Detected}
use Rattle.list_core.specs.Verdicts.{verdict_at}

-- no two are equal
abbrev pub Differ : List Pattern → Type 0
Differ patterns = AllPairs (λ (p q : Pattern). p ≢ q) patterns

-- the patterns of both lists, and none that stands in the first is put behind it again
pub record AreJoined (old more new : List Pattern) : Type 0 where
  pub old_in : (p : Pattern) → Contains old p → Contains new p
  pub more_in : (p : Pattern) → Contains more p → Contains new p
  pub no_other : (p : Pattern) → Contains new p → Contains old p ⊎ Contains more p
  pub differ : Differ old → Differ new
  pub few : length new ≤ length old + length more

-- what none of the new patterns detects of these faults none of the old ones does
abbrev pub LosesNone : Netlist → List Fault → List Pattern → List Pattern → Type 0
LosesNone n faults old new = (class : ℕ) (f : Fault) → slice_get faults class ≡ Some f → IsNeverDetected n new f → IsNeverDetected n old f

-- Patterns of the netlist that obey the held inputs, no two of them equal, which detect what the old ones do.
pub record AreGathered (n : Netlist) (holds : Holds) (faults : List Fault) (old new : List Pattern) : Type 0 where
  pub obey : All (IsPatternOf n holds) new
  pub differ : Differ new
  pub keeps : LosesNone n faults old new
  pub few : length new + 64 ≤ 2 ^ 32

-- each is among the last so many that detect some fault, and where more than one is asked for no two are equal
pub record AreNeeded (n : Netlist) (times : ℕ) (faults : List Fault) (patterns : List Pattern) : Type 0 where
  pub each : (place : ℕ) → place < length patterns → IsNeededFor n patterns times faults place
  pub differ : 1 < times → Differ patterns

-- the last pattern that detects each fault
pub record AreLastTold (n : Netlist) (patterns : List Pattern) (faults : List Fault) (told : List (Option (ℕ × Point))) : Type 0 where
  pub each : AllZip (LastDetected n patterns) faults told

-- those that are among the last so many to detect one of the faults
pub record AreLastFew (n : Netlist) (times : ℕ) (faults : List Fault) (patterns kept : List Pattern) : Type 0 where
  pub marks : List Bool
  pub needed : AreNeededMarks n patterns times faults marks
  pub kept_are : kept ≡ kept_from (λ i. slice_index_or marks i false) 0 patterns

-- Detected where a pattern is told, else what it was
abbrev pub told_verdict : Option (ℕ × Point) → Verdict → Verdict
told_verdict None v = v
told_verdict (Some l) v = Detected l.0 l.1

pub record AreTold (last : List (Option (ℕ × Point))) (old new : List Verdict) : Type 0 where
  pub size : length new ≡ length old
  pub each : (class : ℕ) → class < length old → verdict_at new class ≡ told_verdict (slice_index_or last class None) (verdict_at old class)

-- the last few of the patterns, and each fault told by the last of them
pub record AreFewTold (n : Netlist) (times : ℕ) (faults : List Fault) (patterns : List Pattern) (old : List Verdict) (kept : List Pattern) (new : List Verdict) : Type 0 where
  pub few : AreLastFew n times faults patterns kept
  pub last : List (Option (ℕ × Point))
  pub last_are : AreLastTold n kept faults last
  pub told : AreTold last old new
  pub count : length old ≡ length faults

-- Patterns that obey, each of them needed. Each class has its verdict by them, and what some pattern detected, chosen or not, is Detected.
pub record AreChosen (n : Netlist) (holds : Holds) (times : ℕ) (faults : List Fault) (patterns : List Pattern) (old : List Verdict) (chosen : List Pattern) (new : List Verdict) : Type 0 where
  pub obey : All (IsPatternOf n holds) chosen
  pub few : length chosen < 2 ^ 32
  pub needed : AreNeeded n times faults chosen
  pub count : length new ≡ length old
  pub each : (class : ℕ) (f : Fault) → slice_get faults class ≡ Some f → IsFinished n chosen f (verdict_at old class) (verdict_at new class)
  pub detected : (class : ℕ) (f : Fault) → slice_get faults class ≡ Some f
      → (place : ℕ) (point : Point) → IsDetectedAt n patterns f place point → IsLastTold n chosen f (verdict_at new class)
