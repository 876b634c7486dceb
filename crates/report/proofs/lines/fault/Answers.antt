use Rattle.report.specs.Reports.{IsLineBy}
use Rattle.statement.specs.Reports.{fault_line}
use Rattle.report.specs.inner.Lines.{fault_words}
use Rattle.report.proofs.LineLemmas.{no_end, no_words}
use Rattle.report.proofs.OutcomeLemmas.{fault_lined}
use Rattle.report.proofs.lines.fault.Goals as goal

pub returns-in_err-line : goal.returns-in_err-line
returns-in_err-line c = rw c.from_residual.ensures (no_end (IsLineBy c.args.model) fault_words fault_line (fault_lined c.args.model) c.args.text.now c.in_err-line.ensures)

pub returns-in_err-fault : goal.returns-in_err-fault
returns-in_err-fault c =
    rw c.from_residual-in_err-fault.ensures
    (no_words (IsLineBy c.args.model) fault_words fault_line (fault_lined c.args.model) c.args.text.now c.in_ok-line.line.now c.in_ok-line.rest.now c.in_ok-line.ensures.0 c.in_ok-line.ensures.1
    c.in_err-fault.ensures)
