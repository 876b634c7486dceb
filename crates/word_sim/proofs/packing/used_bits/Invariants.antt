use Rattle.word_sim.specs.inner.Packed.{IsUsed}
use Rattle.word_sim.proofs.packing.used_bits.Given as goal

abbrev pub invariant-loop-j : goal.invariant-loop-j
invariant-loop-j l = IsUsed l.j l.word
