-- What the text of a report stands for.
use Rattle.std.specs.Prelude.{ℕ, ◌≡◌, ◌≢◌, ⊤, List, Result, Ok, Err}
use Rattle.report.specs.declared.reading.ReportFault.{ReportFault}
use Rattle.report.specs.declared.reading.ReportFault.TheVariants as fault
use Rattle.unknown_report.specs.declared.reports.UnknownReport.{UnknownReport}
use Rattle.unknown_report.specs.Reports.{IsUnknownReport, unknown_report_text}

-- what reading answers: the report with this text, or that no report has it
abbrev pub IsUnknownReportRead : List ℕ → Result UnknownReport ReportFault → Type 0
IsUnknownReportRead bytes (Ok r) = IsUnknownReport r × (bytes ≡ unknown_report_text r)
IsUnknownReportRead bytes (Err fault.NotReport) = (r : UnknownReport) → IsUnknownReport r → bytes ≢ unknown_report_text r
IsUnknownReportRead bytes (Err fault.NoMemory) = ⊤
