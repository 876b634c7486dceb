use Rattle.netlist.specs.inner.Placed.{HasRanks}
use Rattle.netlist.proofs.order.first_left.Given as goal

abbrev pub invariant-loop-z : goal.invariant-loop-z
invariant-loop-z l = HasRanks l.ranks l.z
