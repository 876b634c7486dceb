use Rattle.transition_sim.proofs.Answering.{shown_has_no_transition}
use Rattle.transition_sim.proofs.laws.shown_has_no_transition.Goals as goal

pub returns : goal.returns
returns c = shown_has_no_transition c.shown_is_redundant.ensures
