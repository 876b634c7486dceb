use Rattle.lane_play.proofs.CountedLemmas.{AreAdded}
use Rattle.lane_play.proofs.counting.add.Given as goal

abbrev pub invariant-loop-k : goal.invariant-loop-k
invariant-loop-k l = AreAdded l.fn.bits l.k l.initial.numbers.items l.numbers.items
