use Rattle.podem.specs.inner.Searching.{AreOnSources}
use Rattle.podem.proofs.candidates.first_test.Given as goal

abbrev pub invariant-loop-given : goal.invariant-loop-given
invariant-loop-given l = AreOnSources l.case l.labels
