-- The numbers of a report of transition faults. Each fault is a class of its own.
use Rattle.std.specs.Prelude.{ℕ, ◌≡◌, ◌+◌, ◌*◌, ◌/◌, ◌<◌, ◌^◌, List, length}
use Rattle.statement.specs.Netlists.{Netlist}
use Rattle.statement.specs.Tests.{longest_of}
use Rattle.statement.specs.Faults.{universe_of}
use Rattle.statement.specs.Reports.{Line}
use Rattle.run_report.specs.Heads.{count_of, counts_with, one_if_detected, one_if_redundant, share_of}
use Rattle.transition_report.specs.declared.reporting.TransitionReport.{TransitionReport}

-- the cycles of so many patterns by launch on capture: a flush of three loads, a load and two captures for each pattern, and a last load
abbrev pub launch_cycles : List (List ℕ) → ℕ → ℕ
launch_cycles chains patterns = (patterns + 4) * longest_of chains + 2 * patterns

-- the report of these lines, for so many patterns, with this backtrack limit
pub record IsReportOf (n : Netlist) (chains : List (List ℕ)) (patterns limit : ℕ) (lines : List Line) (r : TransitionReport) : Type 0 where
  pub lines_are : r.lines ≡ lines
  pub counts : r.counts ≡ counts_with n chains (length (universe_of n)) (length (universe_of n)) patterns (launch_cycles chains patterns) limit lines
  pub coverage : r.coverage ≡ share_of (length (universe_of n)) (count_of one_if_detected lines)
  pub efficiency : r.efficiency ≡ share_of (length (universe_of n)) (count_of one_if_detected lines + count_of one_if_redundant lines)

-- shares that can be written
pub record HasWritableShares (r : TransitionReport) : Type 0 where
  pub coverage : r.coverage / 100 < 2 ^ 64
  pub efficiency : r.efficiency / 100 < 2 ^ 64
