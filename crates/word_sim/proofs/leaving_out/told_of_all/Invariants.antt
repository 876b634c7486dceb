use Rattle.std.proofs.Common.{◌≡◌, ◌≤◌, ◌++◌, drop, length}
use Rattle.word_sim.specs.inner.Leaving.{told_of_all}
use Rattle.word_sim.proofs.leaving_out.told_of_all.Given as goal

abbrev pub invariant-loop-k : goal.invariant-loop-k
invariant-loop-k l = (l.next ≤ length l.told) × (l.all.items ++ told_of_all (drop l.k l.marks) (drop l.next l.told) ≡ told_of_all l.marks l.told)
