use Rattle.word_sim.specs.inner.Groups.{AreTold}
use Rattle.word_sim.proofs.lanes.tell_four.Given as goal

abbrev pub invariant-loop-k : goal.invariant-loop-k
invariant-loop-k l = AreTold l.events.netlist l.pass l.told.items
