use Rattle.chain_test.proofs.FlushTold.{told_law}
use Rattle.chain_test.proofs.laws.flush_told.Goals as goal

pub returns : goal.returns
returns c = told_law
