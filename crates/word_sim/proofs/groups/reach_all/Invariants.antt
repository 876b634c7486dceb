use Rattle.std.proofs.Common.{take}
use Rattle.word_sim.specs.inner.Groups.{AreReaches}
use Rattle.word_sim.proofs.groups.reach_all.Given as goal

abbrev pub invariant-loop-given : goal.invariant-loop-given
invariant-loop-given l = AreReaches l.netlist l.values (take l.given-index l.faults) l.reaches.items
