use Rattle.run_files.specs.inner.Often.{AreJoined}
use Rattle.run_files.proofs.differing.joined.Given as goal

abbrev pub invariant-loop-pattern : goal.invariant-loop-pattern
invariant-loop-pattern l = AreJoined l.fn.patterns.items l.yielded l.all.items
