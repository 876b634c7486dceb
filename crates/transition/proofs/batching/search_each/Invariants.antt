use Rattle.transition.specs.inner.Steps.{AreFirstAnswers}
use Rattle.transition.proofs.batching.search_each.Given as goal

abbrev pub invariant-loop-fault : goal.invariant-loop-fault
invariant-loop-fault g l = AreFirstAnswers l.task l.slow l.fault-index l.answers.items
