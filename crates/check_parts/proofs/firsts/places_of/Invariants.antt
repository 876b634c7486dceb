use Rattle.check_parts.specs.Firsts.{AreFirst}
use Rattle.check_parts.proofs.firsts.places_of.Given as goal

abbrev pub invariant-loop-k : goal.invariant-loop-k
invariant-loop-k l = AreFirst l.netlist l.evidence l.k l.places.items
