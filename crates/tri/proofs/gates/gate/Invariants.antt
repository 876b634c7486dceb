use Rattle.std.proofs.Common.{drop}
use Rattle.tri.specs.Gathered.{AreTriReductionsOf}
use Rattle.tri.proofs.gates.gate.Given as goal

abbrev pub invariant-loop-k : goal.invariant-loop-k
invariant-loop-k l = AreTriReductionsOf (drop l.k l.values) l.all
