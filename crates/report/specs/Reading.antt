-- What the text of a report stands for.
use Rattle.std.specs.Prelude.{ℕ, ◌≡◌, ◌≢◌, ⊤, List, Result, Ok, Err}
use Rattle.report.specs.Reports.{Report, IsReport}
use Rattle.report.specs.Texts.{report_text}
use Rattle.report.specs.declared.reading.ReportFault.{ReportFault}
use Rattle.report.specs.declared.reading.ReportFault.TheVariants as fault

-- what reading answers: the report with this text, or that no report has it
abbrev pub IsReportRead : List ℕ → Result Report ReportFault → Type 0
IsReportRead bytes (Ok r) = IsReport r × (bytes ≡ report_text r)
IsReportRead bytes (Err fault.NotReport) = (r : Report) → IsReport r → bytes ≢ report_text r
IsReportRead bytes (Err fault.NoMemory) = ⊤
