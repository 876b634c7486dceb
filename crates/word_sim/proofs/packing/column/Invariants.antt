use Rattle.word_sim.specs.inner.Packed.{IsColumn}
use Rattle.word_sim.proofs.packing.column.Given as goal

abbrev pub invariant-loop-j : goal.invariant-loop-j
invariant-loop-j l = IsColumn l.part l.patterns l.place l.j l.word
