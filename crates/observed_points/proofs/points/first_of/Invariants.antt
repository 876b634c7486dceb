use Rattle.observed_points.specs.Points.{AreFirst}
use Rattle.observed_points.proofs.points.first_of.Given as goal

abbrev pub invariant-loop-k : goal.invariant-loop-k
invariant-loop-k l = AreFirst l.seen l.count l.k l.first.items
