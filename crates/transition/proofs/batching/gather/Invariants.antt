use Rattle.std.proofs.Common.{length}
use Rattle.transition.specs.inner.Gathered.{AreGathered}
use Rattle.transition.proofs.batching.gather.Given as goal

abbrev pub invariant-loop-k : goal.invariant-loop-k
invariant-loop-k g l = AreGathered l.task l.first (length l.slots) l.batch.places.items l.batch.slow.items
