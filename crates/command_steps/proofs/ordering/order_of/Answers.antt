use Rattle.command_steps.proofs.OrderLemmas.{reads_order}
use Rattle.command_steps.proofs.ordering.order_of.Goals as goal

pub returns-in-Ok : goal.returns-in-Ok
returns-in-Ok c = reads_order c.args.netlist.now c.args.text.now c.in-Ok.order c.in-Ok.ensures
