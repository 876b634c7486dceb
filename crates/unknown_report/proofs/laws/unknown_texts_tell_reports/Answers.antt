use Rattle.unknown_report.proofs.ReportTexts.{same_report}
use Rattle.unknown_report.proofs.laws.unknown_texts_tell_reports.Goals as goal

pub returns : goal.returns
returns c = same_report
