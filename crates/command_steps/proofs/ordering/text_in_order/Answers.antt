use Rattle.command_steps.proofs.OrderLemmas.{no_netlist, orders_text}
use Rattle.command_steps.proofs.ordering.text_in_order.Goals as goal

pub returns-in-Ok-clause-ordered : goal.returns-in-Ok-clause-ordered
returns-in-Ok-clause-ordered c = orders_text c.args.net.now c.args.text.now c.in-Ok.netlist c.netlist_in_order.result c.in-Ok.ensures.step c.netlist_in_order.ensures.ordered

pub returns-in-Err-clause-ordered : goal.returns-in-Err-clause-ordered
returns-in-Err-clause-ordered c = no_netlist c.args.net.now c.args.text.now c.in-Err.stop c.in-Err.ensures.step
