use Rattle.diagnose.specs.Failures.{IsFailing}
use Rattle.diagnose.specs.Texts.{failing_line}
use Rattle.diagnose.specs.inner.Words.{failure_words}
use Rattle.diagnose.proofs.FailureLemmas.{failure_lined}
use Rattle.report.proofs.LineLemmas.{no_end, no_words}
use Rattle.diagnose.proofs.lines.failure.Goals as goal

pub returns-in_err-line : goal.returns-in_err-line
returns-in_err-line c = rw c.from_residual.ensures (no_end IsFailing failure_words failing_line failure_lined c.args.text.now c.in_err-line.ensures)

pub returns-in_err-failure : goal.returns-in_err-failure
returns-in_err-failure c =
    rw c.from_residual-in_err-failure.ensures
    (no_words IsFailing failure_words failing_line failure_lined c.args.text.now c.in_ok-line.line.now c.in_ok-line.rest.now c.in_ok-line.ensures.0 c.in_ok-line.ensures.1
    c.in_err-failure.ensures)
