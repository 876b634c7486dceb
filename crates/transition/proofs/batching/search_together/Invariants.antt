use Rattle.std.proofs.Common.{take}
use Rattle.transition.specs.inner.Asked.{AreAnswers}
use Rattle.transition.proofs.batching.search_together.Given as goal

abbrev pub invariant-loop-j : goal.invariant-loop-j
invariant-loop-j g l = record {
  room : g.E.Engine.serves l.core l.task.holds l.room;
  found : AreAnswers l.task (take l.j l.slow) l.answers.items;
}
