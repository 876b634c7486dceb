use Rattle.atpg_top.proofs.Endings.{declined}
use Rattle.atpg_top.proofs.laws.declined_exactly.Goals as goal

pub returns : goal.returns
returns c = declined
