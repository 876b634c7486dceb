use Rattle.cell_order.proofs.OrderedLemmas.{own_order}
use Rattle.cell_order.proofs.laws.own_order.Goals as goal

pub returns : goal.returns
returns c = own_order
