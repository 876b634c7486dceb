use Rattle.report.specs.Beginnings.{IsShare}
use Rattle.report.specs.inner.Lines.{share_end}
use Rattle.report.proofs.LineLemmas.{none_behind}
use Rattle.report.proofs.lines.share.Goals as goal

pub returns-in_err-share : goal.returns-in_err-share
returns-in_err-share c =
    rw c.from_residual-in_err-share.ensures (none_behind IsShare c.args.word.now share_end c.args.text.now c.in_ok-after.after.now c.in_ok-after.ensures c.in_err-share.ensures)
