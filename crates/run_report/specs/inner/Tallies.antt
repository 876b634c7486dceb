-- Lines counted by their kinds.
use Rattle.std.specs.Prelude.{◌≡◌, ◌+◌, List, length}
use Rattle.statement.specs.Reports.{Line}
use Rattle.run_report.specs.declared.heads.Tally.{Tally}
use Rattle.run_report.specs.Heads.{one_if_aborted, count_of, one_if_detected, one_if_redundant, one_if_unasked}

pub record AreTallied (lines : List Line) (t : Tally) : Type 0 where
  pub detected : t.detected ≡ count_of one_if_detected lines
  pub redundant : t.redundant ≡ count_of one_if_redundant lines
  pub aborted : t.aborted ≡ count_of one_if_aborted lines
  pub unasked : t.unasked ≡ count_of one_if_unasked lines
  pub all : t.detected + t.redundant + t.aborted + t.unasked ≡ length lines
