use Rattle.std.proofs.Common.{drop}
use Rattle.netlist.specs.Gates.{AreReductionsOf}
use Rattle.netlist.proofs.bits.gather.Given as goal

abbrev pub invariant-loop-k : goal.invariant-loop-k
invariant-loop-k l = AreReductionsOf (drop l.k l.pins) l.all l.some l.odd l.first
