-- The numbers above the report's lines, in two parts.
use Rattle.std.specs.Prelude.{ℕ, ◌≡◌, ◌+◌, length}
use Rattle.run_report.specs.Heads.{count_of, counts_with, one_if_detected, one_if_redundant, share_of}
use Rattle.transition_report.specs.declared.reporting.TransitionReport.{TransitionReport}
use Rattle.transition_report.specs.Numbers.{launch_cycles}
use Rattle.good_slow_files.specs.GoodSlowFiles.{SlowTest}

pub record HasShares (faults : ℕ) (r : TransitionReport) : Type 0 where
  pub coverage : r.coverage ≡ share_of faults (count_of one_if_detected r.lines)
  pub efficiency : r.efficiency ≡ share_of faults (count_of one_if_detected r.lines + count_of one_if_redundant r.lines)

abbrev pub HasCounts : SlowTest → ℕ → TransitionReport → Type 0
HasCounts t faults r = r.counts ≡ counts_with t.netlist t.chains faults faults (length t.patterns) (launch_cycles t.chains (length t.patterns)) t.limit r.lines
