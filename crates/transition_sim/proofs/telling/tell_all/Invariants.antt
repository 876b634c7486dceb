use Rattle.std.proofs.Common.{◌≡◌}
use Rattle.transition_sim.specs.inner.Launches.{AreToldBelow}
use Rattle.transition_sim.proofs.telling.tell_all.Given as goal

abbrev pub invariant-loop-k : goal.invariant-loop-k
invariant-loop-k l = record {
  told : AreToldBelow l.part.netlist.now l.part.patterns.now l.part.start l.faults l.initial.told.items l.told.items l.k;
  second : l.second ≡ l.initial.second;
}
