use Rattle.word_sim.proofs.ToldFaults.{told_set}
use Rattle.word_sim.proofs.groups.tell_chain.Goals as goal

pub returns-then-next-k : goal.returns-then-next-k
returns-then-next-k c = told_set c.args.events.now.netlist c.args.pass.now c.loop-step.told.items c.loop-step.k c.tell_one.result c.if-k-pass-3.false c.tell_one.ensures c.loop-step.invariant

pub loop-step-preserved : goal.loop-step-preserved
loop-step-preserved c = told_set c.args.events.now.netlist c.args.pass.now c.loop-step.told.items c.loop-step.k c.tell_one.result c.if-k-pass-3.false c.tell_one.ensures c.loop-step.invariant
