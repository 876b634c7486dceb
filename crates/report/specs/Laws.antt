-- The law of reports' texts.
use Rattle.std.specs.Prelude.{◌≡◌}
use Rattle.report.specs.Reports.{Report, IsReport}
use Rattle.report.specs.Texts.{report_text}

-- at most one report has a given text
abbrev pub TextsTellReports : Type 0
TextsTellReports = (r s : Report) → IsReport r → IsReport s → report_text r ≡ report_text s → r ≡ s
