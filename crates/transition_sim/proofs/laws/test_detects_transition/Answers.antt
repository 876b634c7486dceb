use Rattle.transition_sim.proofs.Answering.{test_detects_transition}
use Rattle.transition_sim.proofs.laws.test_detects_transition.Goals as goal

pub returns : goal.returns
returns c n holds f cube point p sound valid test agrees = test_detects_transition n holds f cube point p sound valid test agrees
