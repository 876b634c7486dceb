-- What is found of a test.
use Rattle.std.specs.Prelude.{◌≡◌, ◌≤◌, ◌+◌, ◌^◌, List, length}
use Rattle.std.specs.List.{All}
use Rattle.statement.specs.Benches.{Text}
use Rattle.statement.specs.Patterns.{Holds, Pattern}
use Rattle.statement.specs.Faults.{universe_of}
use Rattle.netlist.specs.Conditions.{IsSound}
use Rattle.netlist.specs.Designs.{IsDesign}
use Rattle.transition_report.specs.declared.reporting.TransitionReport.{TransitionReport}
use Rattle.transition_report.specs.Reading.{IsTransitionEvidence}
use Rattle.good_files.specs.declared.answers.Checked.{Checked}
use Rattle.good_files.specs.declared.answers.Checked.TheVariants.{Faults, False}
use Rattle.good_files.specs.declared.answers.Clause.TheVariants as clause
use Rattle.good_slow_files.specs.GoodSlowFiles.{AreSlowTotals, AreTrueSlowFaults, HasLaunchPatterns, HasSlowHolds, HasSlowScan, SlowTest}
use Rattle.good_slow_files.specs.Clauses.{IsFalseSlowFault}
use Rattle.good_slow_files.specs.Checks.{IsSlowAnswer}
use Rattle.slow_check.specs.declared.reading.Said.{Said}
use Rattle.slow_check.specs.inner.Reading.{contents_of}

-- what texts in their grammars stand for
pub record IsPosed (s : Said) : Type 0 where
  pub sound : IsSound s.core
  pub design : IsDesign s.core
  pub evidence : All (IsTransitionEvidence s.core) s.evidence.items
  pub few : length s.file.items + 64 ≤ 2 ^ 32

-- which of the last clauses is the first that is false, or how many slow lines there are
abbrev pub IsVerdict : SlowTest → TransitionReport → Checked → Type 0
IsVerdict t said (False clause.ScanDiffers) = ⊥
IsVerdict t said (False clause.HoldDiffers) = ⊥
IsVerdict t said (False clause.StilDiffers) = ⊥
IsVerdict t said (False (clause.Fault text)) = IsFalseSlowFault t said.lines text.items
IsVerdict t said (False clause.TotalsDiffer) = AreTrueSlowFaults t said.lines × (¬ AreSlowTotals t said)
IsVerdict t said (Faults count) = AreTrueSlowFaults t said.lines × AreSlowTotals t said × (count ≡ length (universe_of t.netlist))

-- ---- the clauses one after the other, where those before hold

-- what is answered of the contents, whatever the scanned netlist's text is, so long as it is the right one
abbrev pub IsScanAnswer : Said → Checked → Type 0
IsScanAnswer s answer = (scan : Text) → HasSlowScan (contents_of scan s) → IsSlowAnswer (contents_of scan s) answer

abbrev pub IsHeldAnswer : Said → Holds → Checked → Type 0
IsHeldAnswer s holds answer = (scan : Text) → HasSlowScan (contents_of scan s) → HasSlowHolds (contents_of scan s) holds → IsSlowAnswer (contents_of scan s) answer

abbrev pub IsPosedAnswer : Said → Holds → List Pattern → Checked → Type 0
IsPosedAnswer s holds patterns answer =
    (scan : Text) → HasSlowScan (contents_of scan s) → HasSlowHolds (contents_of scan s) holds → HasLaunchPatterns (contents_of scan s) holds patterns
    → IsSlowAnswer (contents_of scan s) answer
