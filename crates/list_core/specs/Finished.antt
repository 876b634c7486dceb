-- What compaction makes of patterns and verdicts.
use Rattle.std.specs.Prelude.{ℕ, ◌≡◌, ◌<◌, ◌⊎◌, List, length, Some}
use Rattle.std.specs.List.{slice_get}
use Rattle.statement.specs.declared.lines.Fault.{Fault}
use Rattle.statement.specs.declared.lines.Point.{Point}
use Rattle.statement.specs.Netlists.{Netlist}
use Rattle.statement.specs.Patterns.{Pattern, IsDetectedAt, IsLastDetected}
use Rattle.word_sim.specs.Hits.{IsNeverDetected}
use Rattle.list_core.specs.declared.verdicts.Verdict.{Verdict}
use Rattle.list_core.specs.declared.verdicts.Verdict.TheVariants.{Detected}
use Rattle.list_core.specs.Verdicts.{verdict_at}
use Rattle.list_core.specs.Kept.{AreKept, IsNeeded}

-- Detected by the last of the patterns that detects the fault, at its first point
abbrev pub IsLastTold : Netlist → List Pattern → Fault → Verdict → Type 0
IsLastTold n patterns f v = (place : ℕ) × (point : Point) × (v ≡ Detected place point) × IsLastDetected n patterns f place point

-- Detected by the last kept pattern that detects the fault; or no kept pattern detects it, and the verdict stays
abbrev pub IsFinished : Netlist → List Pattern → Fault → Verdict → Verdict → Type 0
IsFinished n kept f old new = IsLastTold n kept f new ⊎ ((new ≡ old) × IsNeverDetected n kept f)

-- The kept patterns are exactly those needed, and each of them is needed among them too. Each class has its verdict, and what some pattern
-- detects, kept or not, is Detected.
pub record AreFinished (n : Netlist) (faults : List Fault) (patterns : List Pattern) (old : List Verdict) (kept : List Pattern) (new : List Verdict) : Type 0 where
  pub are_kept : AreKept n faults patterns kept
  pub needed : (place : ℕ) → place < length kept → IsNeeded n kept faults place
  pub count : length new ≡ length old
  pub each : (class : ℕ) (f : Fault) → slice_get faults class ≡ Some f → IsFinished n kept f (verdict_at old class) (verdict_at new class)
  pub detected : (class : ℕ) (f : Fault) → slice_get faults class ≡ Some f
      → (place : ℕ) (point : Point) → IsDetectedAt n patterns f place point → IsLastTold n kept f (verdict_at new class)
