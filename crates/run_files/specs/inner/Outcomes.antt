-- What is said of a fault by its class's verdict.
use Rattle.std.specs.Prelude.{ℕ, ◌≡◌, ◌<◌, Bool, false, cond, List, [], ◌∷◌, ◌++◌, length, map, slice_index, slice_index_or, Some}
use Rattle.std.specs.List.{All, slice_get}
use Rattle.statement.specs.declared.lines.Fault.{Fault}
use Rattle.statement.specs.Netlists.{Netlist}
use Rattle.statement.specs.Faults.{fault_text, universe_of}
use Rattle.list_core.specs.declared.verdicts.Verdict.{Verdict}
use Rattle.list_core.specs.declared.verdicts.Verdict.TheVariants as verdict
use Rattle.list_core.specs.Verdicts.{verdict_at}
use Rattle.statement.specs.declared.outcomes.Outcome.{Outcome}
use Rattle.statement.specs.declared.outcomes.Outcome.TheVariants as outcome
use Rattle.report.specs.Reports.{IsBenchWord, IsLine}
use Rattle.scan_insert.specs.Scanned.{scanned_of}
use Rattle.statement.specs.Reports.{Line}
use Rattle.statement.specs.Runs.{output_name}
use Rattle.run_report.specs.Outcomes.{IsSeenAt}

-- the names of the pins at the scanned netlist's outputs
pub record ArePins (n : Netlist) (chains : List (List ℕ)) (pins : List (List ℕ)) : Type 0 where
  pub are : pins ≡ map (output_name (scanned_of n chains)) (scanned_of n chains).outputs
  pub words : All IsBenchWord pins

-- The pattern's place, and where the tester sees the point; or that no pattern detects it, by evidence without or with an open end; or nothing.
abbrev pub IsOutcomeOf : Netlist → List (List ℕ) → Verdict → Outcome → List ℕ → Type 0
IsOutcomeOf n chains (verdict.Detected place point) o pin =
    (cycle : ℕ) × (o ≡ outcome.Detected place cycle) × IsSeenAt n chains place point cycle pin
IsOutcomeOf n chains (verdict.Redundant e) o pin = (o ≡ outcome.Redundant) × (pin ≡ [])
IsOutcomeOf n chains (verdict.Aborted tree) o pin = (o ≡ outcome.Aborted) × (pin ≡ [])
IsOutcomeOf n chains verdict.Open o pin = (o ≡ outcome.Unasked) × (pin ≡ [])

-- what is said of a fault of a class: nothing where it isn't asked for
abbrev pub verdict_said : Bool → Verdict → Verdict
verdict_said asked v = cond asked v verdict.Open

-- the line of a fault of which this verdict is said
pub record IsLineOf (n : Netlist) (chains : List (List ℕ)) (f : Fault) (v : Verdict) (l : Line) : Type 0 where
  pub names_it : l.fault ≡ fault_text n f
  pub outcome : IsOutcomeOf n chains v l.outcome l.pin
  pub sound : IsLine l

-- it stands behind the others
pub record IsAdded (n : Netlist) (chains : List (List ℕ)) (f : Fault) (v : Verdict) (old new : List Line) : Type 0 where
  pub line : Line
  pub is_line : IsLineOf n chains f v line
  pub behind : new ≡ old ++ line ∷ []

-- the lines of the first faults, each by its class's verdict, where the faults that are asked for are marked
pub record AreLines (n : Netlist) (chains : List (List ℕ)) (numbers : List ℕ) (marks : List Bool) (verdicts : List Verdict) (count : ℕ) (lines : List Line) : Type 0 where
  pub size : length lines ≡ count
  pub each : (place : ℕ) (f : Fault) → place < count → slice_get (universe_of n) place ≡ Some f
      → (line : Line) × (slice_get lines place ≡ Some line) × IsLineOf n chains f (verdict_said (slice_index_or marks place false) (verdict_at verdicts (slice_index numbers place))) line
