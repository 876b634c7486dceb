use Rattle.check_parts.specs.Firsts.{ArePartStarts}
use Rattle.check_parts.proofs.firsts.starts_of.Given as goal

abbrev pub invariant-loop-x : goal.invariant-loop-x
invariant-loop-x l = ArePartStarts l.netlist l.starts.items l.x l.next
