use Rattle.netlist.specs.Holds.{AreHoldsOf}
use Rattle.grade.proofs.test_patterns.holds_of.Given as goal

abbrev pub invariant-loop-k : goal.invariant-loop-k
invariant-loop-k l = AreHoldsOf l.core l.holds
