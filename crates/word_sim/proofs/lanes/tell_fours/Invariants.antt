use Rattle.std.proofs.Common.{◌≡◌}
use Rattle.word_sim.specs.inner.Groups.{AreTold}
use Rattle.word_sim.proofs.lanes.tell_fours.Given as goal

abbrev pub invariant-loop-at : goal.invariant-loop-at
invariant-loop-at l = (l.wide ≡ l.initial.wide) × AreTold l.events.netlist l.pass l.told.items
