use Rattle.transition_report.proofs.ReportTexts.{same_report}
use Rattle.transition_report.proofs.laws.transition_texts_tell_reports.Goals as goal

pub returns : goal.returns
returns c = same_report
