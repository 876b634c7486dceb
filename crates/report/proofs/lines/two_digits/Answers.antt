use Rattle.std.proofs.Common.{ap, get_or}
use Rattle.report.proofs.lines.two_digits.Goals as goal

pub returns-in_err-tens : goal.returns-in_err-tens
returns-in_err-tens c = rw c.from_residual.ensures (λ tens ones t o e. c.in_err-tens.ensures tens t (ap (λ xs. get_or xs 0 0) e))

pub returns-in_err-ones : goal.returns-in_err-ones
returns-in_err-ones c = rw c.from_residual-in_err-ones.ensures (λ tens ones t o e. c.in_err-ones.ensures ones o (ap (λ xs. get_or xs 1 0) e))
