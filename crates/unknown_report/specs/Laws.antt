-- The law of the texts of reports.
use Rattle.std.specs.Prelude.{◌≡◌}
use Rattle.unknown_report.specs.declared.reports.UnknownReport.{UnknownReport}
use Rattle.unknown_report.specs.Reports.{IsUnknownReport, unknown_report_text}

-- at most one report has a given text
abbrev pub UnknownTextsTellReports : Type 0
UnknownTextsTellReports =
    (r s : UnknownReport) → IsUnknownReport r → IsUnknownReport s → unknown_report_text r ≡ unknown_report_text s → r ≡ s
