use Rattle.run_files.specs.inner.Often.{AreGathered}
use Rattle.run_files.proofs.repeating.repeated.Given as goal

abbrev pub invariant-loop-round : goal.invariant-loop-round
invariant-loop-round g l = AreGathered l.errand.core.now l.errand.holds.now l.faults l.fn.patterns.items l.all.items
