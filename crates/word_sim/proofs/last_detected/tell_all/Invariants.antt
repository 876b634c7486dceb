use Rattle.std.proofs.Common.{◌≡◌, drop, length}
use Rattle.word_sim.specs.inner.Found.{TellUpTo}
use Rattle.word_sim.proofs.last_detected.tell_all.Given as goal

abbrev pub invariant-loop-k : goal.invariant-loop-k
invariant-loop-k l = (length l.told.items ≡ length l.faults) × TellUpTo l.start l.faults l.hits l.initial.told.items l.told.items l.k (drop l.next l.hits)
