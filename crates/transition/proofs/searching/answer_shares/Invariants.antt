use Rattle.std.proofs.Common.{◌≡◌, length}
use Rattle.transition.specs.inner.Slots.{AreAnswersFrom}
use Rattle.transition.proofs.searching.answer_shares.Given as goal

abbrev pub invariant-loop-k : goal.invariant-loop-k
invariant-loop-k g l = record {
  count : length l.slots ≡ length l.initial.slots;
  each : AreAnswersFrom l.task l.first l.slots;
}
