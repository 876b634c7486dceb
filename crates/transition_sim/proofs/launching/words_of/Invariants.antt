use Rattle.std.proofs.Common.{◌≡◌, map, take}
use Rattle.netlist.specs.Settled.{at}
use Rattle.transition_sim.proofs.launching.words_of.Given as goal

abbrev pub invariant-loop-x : goal.invariant-loop-x
invariant-loop-x l = l.words.items ≡ map (at l.first 0) (take l.x-index l.ids)
