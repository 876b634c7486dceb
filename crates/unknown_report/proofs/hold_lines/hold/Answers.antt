use Rattle.report.specs.Texts.{hold_line}
use Rattle.report.specs.inner.Lines.{IsHold, hold_words}
use Rattle.report.proofs.HoldLemmas.{hold_lined}
use Rattle.report.proofs.LineLemmas.{no_end, no_words}
use Rattle.unknown_report.proofs.hold_lines.hold.Goals as goal

pub returns-in_err-line : goal.returns-in_err-line
returns-in_err-line c = rw c.from_residual.ensures (no_end IsHold hold_words hold_line hold_lined c.args.text.now c.in_err-line.ensures)

pub returns-in_err-name : goal.returns-in_err-name
returns-in_err-name c =
    rw c.from_residual-in_err-name.ensures
    (no_words IsHold hold_words hold_line hold_lined c.args.text.now c.in_ok-line.line.now c.in_ok-line.rest.now c.in_ok-line.ensures.0 c.in_ok-line.ensures.1
    c.in_err-name.ensures)
