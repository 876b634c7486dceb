-- Which slow line the clause on faults names where it is false.
use Rattle.std.specs.Prelude.{ℕ, ◌≡◌, ◌≢◌, ◌<◌, ◌⊎◌, List, Some, length, take}
use Rattle.std.specs.List.{slice_get}
use Rattle.statement.specs.Benches.{Text}
use Rattle.statement.specs.declared.lines.Fault.{Fault}
use Rattle.statement.specs.Faults.{universe_of}
use Rattle.statement.specs.Reports.{Line}
use Rattle.good_files.specs.GoodFiles.{faults_in}
use Rattle.good_files.specs.Clauses.{named_at}
use Rattle.transition_report.specs.Texts.{transition_text}
use Rattle.good_slow_files.specs.GoodSlowFiles.{AreTrueSlowLines, IsTrueSlowAt, SlowTest, slow_left_of}

-- the first place of the universe at which the report doesn't say of its slow line what is true
pub record IsFirstUntrueSlow (t : SlowTest) (lines : List Line) (text : Text) : Type 0 where
  pub place : ℕ
  pub fault : Fault
  pub member : slice_get (universe_of t.netlist) place ≡ Some fault
  pub before : (k : ℕ) → k < place → IsTrueSlowAt t lines k
  pub untrue : ¬ IsTrueSlowAt t lines place
  pub names_it : text ≡ named_at lines place (transition_text t.netlist fault)

-- all are true, and there is a further line
pub record IsFurtherSlow (t : SlowTest) (lines : List Line) (text : Text) : Type 0 where
  pub line : Line
  pub each : (k : ℕ) → k < length (universe_of t.netlist) → IsTrueSlowAt t lines k
  pub further : slice_get lines (length (universe_of t.netlist)) ≡ Some line
  pub names_it : text ≡ line.fault

-- The lines are true, but the certificate isn't that of the slow lines of which one says redundant or aborted, in order: here is its first evidence
-- that isn't, in order, that of one of these.
pub record IsStraySlow (t : SlowTest) (lines : List Line) (text : Text) : Type 0 where
  pub lines_true : AreTrueSlowLines t lines
  pub place : ℕ
  pub fault : Fault
  pub at : slice_get (faults_in t.evidence) place ≡ Some fault
  pub before : take place (faults_in t.evidence) ≡ take place (slow_left_of (universe_of t.netlist) lines)
  pub stray : slice_get (slow_left_of (universe_of t.netlist) lines) place ≢ Some fault
  pub names_it : text ≡ transition_text t.netlist fault

-- the slow line that is named, in this order
abbrev pub IsFalseSlowFault : SlowTest → List Line → Text → Type 0
IsFalseSlowFault t lines text = IsFirstUntrueSlow t lines text ⊎ (IsFurtherSlow t lines text ⊎ IsStraySlow t lines text)
