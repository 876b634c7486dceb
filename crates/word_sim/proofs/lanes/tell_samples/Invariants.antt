use Rattle.std.proofs.Common.{◌≡◌}
use Rattle.word_sim.specs.inner.Groups.{AreTold}
use Rattle.word_sim.proofs.lanes.tell_samples.Given as goal

abbrev pub invariant-loop-at : goal.invariant-loop-at
invariant-loop-at l = (l.events ≡ l.initial.events) × AreTold l.initial.events.netlist l.pass l.told.items
