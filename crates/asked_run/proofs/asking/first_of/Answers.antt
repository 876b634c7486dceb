use Rattle.asked_run.proofs.AskLemmas.{few_first}
use Rattle.asked_run.proofs.asking.first_of.Goals as goal

pub returns-in-Ok-clause-few : goal.returns-in-Ok-clause-few
returns-in-Ok-clause-few c =
    few_first c.args.netlist.now c.args.holds.now c.in-Some.text.now c.in-Ok.file c.applied_by.result c.items_take_bytes.ensures c.in-Ok.ensures (rw c.in-Some.is at c.requires.short)
    c.applied_by.ensures.applied
