use Rattle.std.proofs.Common.{drop}
use Rattle.regions.specs.inner.Controlled.{AreControlled}
use Rattle.regions.proofs.controlling.Controlling.of.Given as goal

abbrev pub invariant-loop-k : goal.invariant-loop-k
invariant-loop-k l = AreControlled l.kind (drop l.k l.pins) l.values l.controlling.one l.controlling.two
