use Rattle.cell_order.proofs.GivenLemmas.{chains_are_given}
use Rattle.cell_order.proofs.laws.chains_are_given.Goals as goal

pub returns : goal.returns
returns c = chains_are_given
