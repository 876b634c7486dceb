use Rattle.asked_run.proofs.AskLemmas.{marks_length, no_first}
use Rattle.asked_run.proofs.asking.wanted_of.Goals as goal

pub returns-in-Ok-first_of-clause-wanted : goal.returns-in-Ok-first_of-clause-wanted
returns-in-Ok-first_of-clause-wanted c = record {
  faults = marks_length c.args.netlist.now _ c.in-Ok.faults.items c.in-Ok.ensures;
  first = c.in-Ok-first_of.ensures.obey;
  few = c.in-Ok-first_of.ensures.few;
}

pub returns-in-Err-first_of-clause-reads : goal.returns-in-Err-first_of-clause-reads
returns-in-Err-first_of-clause-reads c =
    no_first c.args.netlist.now c.args.holds.now _ _ c.in-Ok.faults.items c.in-Err-first_of.stop c.in-Ok.ensures c.in-Err-first_of.ensures.first
