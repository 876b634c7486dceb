use Rattle.report.specs.Beginnings.{IsCount}
use Rattle.report.specs.inner.Lines.{count_end}
use Rattle.report.proofs.LineLemmas.{none_behind}
use Rattle.report.proofs.lines.count.Goals as goal

pub returns-in_err-count : goal.returns-in_err-count
returns-in_err-count c =
    rw c.from_residual-in_err-count.ensures (none_behind IsCount c.args.word.now count_end c.args.text.now c.in_ok-after.after.now c.in_ok-after.ensures c.in_err-count.ensures)
