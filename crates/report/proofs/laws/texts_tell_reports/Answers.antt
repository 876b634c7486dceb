use Rattle.report.proofs.WholeLemmas.{same_report}
use Rattle.report.proofs.laws.texts_tell_reports.Goals as goal

pub returns : goal.returns
returns c = same_report
