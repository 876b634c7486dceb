use Rattle.check_parts.proofs.HeldLemmas.{ArePartHeld}
use Rattle.check_parts.proofs.holding.hold_named.Given as goal

abbrev pub invariant-loop-k : goal.invariant-loop-k
invariant-loop-k l = ArePartHeld l.netlist l.lines l.k l.next l.holds
