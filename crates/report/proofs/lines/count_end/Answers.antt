use Rattle.std.proofs.Common.{decimal}
use Rattle.report.specs.Beginnings.{IsCount}
use Rattle.report.specs.inner.Lines.{count_end}
use Rattle.report.proofs.LineLemmas.{no_words}
use Rattle.report.proofs.NumberLemmas.{count_lined}
use Rattle.report.proofs.lines.count_end.Goals as goal

pub returns-in_err-count : goal.returns-in_err-count
returns-in_err-count c =
    rw c.from_residual-in_err-count.ensures
    (no_words IsCount decimal count_end count_lined c.args.text.now c.in_ok-digits.digits.now c.in_ok-digits.rest.now c.in_ok-digits.ensures.0 c.in_ok-digits.ensures.1
    c.in_err-count.ensures.cases)
