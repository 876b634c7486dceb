use Rattle.std.proofs.Common.{take, length}
use Rattle.pair_sim.specs.inner.Reach.{AreViewed}
use Rattle.pair_sim.proofs.reach.view_of.Given as goal

abbrev pub invariant-loop-id : goal.invariant-loop-id
invariant-loop-id l = AreViewed l.reach.points.first.items (length l.reach.points.seen.items) l.values (take l.id-index l.reach.signals.items) l.view.least l.view.differs
