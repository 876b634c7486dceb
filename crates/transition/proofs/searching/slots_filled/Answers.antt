use Rattle.transition.proofs.BatchLemmas.{slots_answered, slots_hold, slots_kept}
use Rattle.transition.proofs.searching.slots_filled.Goals as goal

pub returns-clause-hold : goal.returns-clause-hold
returns-clause-hold c = slots_hold

pub returns-clause-kept : goal.returns-clause-kept
returns-clause-kept c = slots_kept

pub returns-clause-answered : goal.returns-clause-answered
returns-clause-answered c = slots_answered
