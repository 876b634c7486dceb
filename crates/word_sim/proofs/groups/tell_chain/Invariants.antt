use Rattle.word_sim.specs.inner.Groups.{AreTold}
use Rattle.word_sim.proofs.groups.tell_chain.Given as goal

abbrev pub invariant-loop-step : goal.invariant-loop-step
invariant-loop-step l = AreTold l.events.netlist l.pass l.told.items
