use Rattle.stil_read.proofs.StepLemmas.{no_more_chains}
use Rattle.stil_read.proofs.chains.chains.Goals as goal

pub returns-in_default : goal.returns-in_default
returns-in_default c = no_more_chains c.chains.counter c.args.count _ _ _ c.chains-test.true c.chains.invariant (rw c.in_default.is at c.in_ok-cells.ensures)
