use Rattle.std.proofs.Common.{◌≡◌, ◌++◌, drop}
use Rattle.word_sim.specs.Never.{unmarked}
use Rattle.word_sim.proofs.leaving_out.unmarked.Given as goal

abbrev pub invariant-loop-k : goal.invariant-loop-k
invariant-loop-k l = l.left.items ++ unmarked (drop l.k l.marks) (drop l.k l.faults) ≡ unmarked l.marks l.faults
