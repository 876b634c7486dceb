use Rattle.std.proofs.Common.{◌≡◌, ◌++◌, drop}
use Rattle.word_sim.specs.inner.Found.{untold}
use Rattle.word_sim.proofs.last_detected.list_untold.Given as goal

abbrev pub invariant-loop-k : goal.invariant-loop-k
invariant-loop-k l = l.rest.items ++ untold l.k (drop l.k l.faults) (drop l.k l.told) ≡ untold 0 l.faults l.told
