-- The report of lines.
use Rattle.std.specs.Prelude.{ℕ, ◌≡◌, ◌+◌, Bool, List, length}
use Rattle.statement.specs.Netlists.{Netlist}
use Rattle.statement.specs.Patterns.{Holds, Pattern}
use Rattle.statement.specs.Faults.{universe_of}
use Rattle.fault_collapse.specs.Numbers.{Classes}
use Rattle.list_core.specs.declared.verdicts.Verdict.{Verdict}
use Rattle.statement.specs.Reports.{Line}
use Rattle.report.specs.Reports.{AreCounted, Report, Times}
use Rattle.run_report.specs.Times.{HasTimes}
use Rattle.run_files.specs.Runs.{counted_to}
use Rattle.run_files.specs.inner.Outcomes.{AreLines}
use Rattle.run_report.specs.Heads.{count_of, counts_of, one_if_detected, holds_named, one_if_redundant, share_of}

-- its lines, the held inputs, and the numbers that follow
pub record IsReported (n : Netlist) (chains : List (List ℕ)) (holds : Holds) (faults classes patterns limit : ℕ) (lines : List Line) (r : Report) : Type 0 where
  pub lines_are : r.lines ≡ lines
  pub held : r.holds ≡ holds_named n holds
  pub counts : r.counts ≡ counts_of n chains faults classes patterns limit lines
  pub coverage : r.coverage ≡ share_of faults (count_of one_if_detected lines)
  pub efficiency : r.efficiency ≡ share_of faults (count_of one_if_detected lines + count_of one_if_redundant lines)

-- how often each fault is detected, where more than one pattern is asked for: counted to so many
pub record AreTimes (n : Netlist) (patterns : List Pattern) (most : ℕ) (t : Times) : Type 0 where
  pub most_is : t.most ≡ counted_to most
  pub counted : AreCounted t
  pub has : HasTimes n patterns t

-- the report of verdicts, where these faults are asked for
pub record IsSaid (n : Netlist) (chains : List (List ℕ)) (holds : Holds) (classes : Classes) (limit : ℕ) (marks : List Bool) (patterns : List Pattern) (verdicts : List Verdict) (r : Report) : Type 0 where
  pub lines : AreLines n chains classes.numbers marks verdicts (length (universe_of n)) r.lines
  pub numbers : IsReported n chains holds (length (universe_of n)) (length classes.representatives) (length patterns) limit r.lines r
