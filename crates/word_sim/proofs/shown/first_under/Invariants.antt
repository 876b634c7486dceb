use Rattle.std.proofs.Common.{take}
use Rattle.word_sim.specs.inner.Differences.{IsFirstSeen}
use Rattle.word_sim.proofs.shown.first_under.Given as goal

abbrev pub invariant-loop-k : goal.invariant-loop-k
invariant-loop-k l = IsFirstSeen l.count l.j (take l.k l.shown) l.least
