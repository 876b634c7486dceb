use Rattle.fewer_patterns.specs.inner.Aims.{IsEnough}
use Rattle.fewer_patterns.proofs.rounds.improved_in.Given as goal

abbrev pub invariant-loop-round : goal.invariant-loop-round
invariant-loop-round g l = IsEnough l.aim l.course.best
