use Rattle.report.specs.Texts.{hundredths}
use Rattle.report.specs.Beginnings.{IsShare}
use Rattle.report.specs.inner.Lines.{share_end}
use Rattle.report.proofs.LineLemmas.{no_words}
use Rattle.report.proofs.NumberLemmas.{share_lined}
use Rattle.report.proofs.lines.share_end.Goals as goal

pub returns-in_err-share : goal.returns-in_err-share
returns-in_err-share c =
    rw c.from_residual-in_err-share.ensures
    (no_words IsShare hundredths share_end share_lined c.args.text.now c.in_ok-line.line.now c.in_ok-line.rest.now c.in_ok-line.ensures.0 c.in_ok-line.ensures.1
    c.in_err-share.ensures)
