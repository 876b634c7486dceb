use Rattle.std.proofs.Common.{◌≡◌, ◌<◌, length, drop}
use Rattle.std.specs.List.{AllZip}
use Rattle.evidence.specs.declared.engine.Found.{Found}
use Rattle.transition.specs.inner.Slots.{with_answers}
use Rattle.transition.proofs.searching.put_all.Given as goal

abbrev pub invariant-loop-answer : goal.invariant-loop-answer
invariant-loop-answer l = record {
  count : length l.slots ≡ length l.initial.slots;
  within : AllZip (λ k (x : Found). k < length l.initial.slots) (drop l.j l.places) l.answer-iterator.rest.items;
  rest : with_answers l.slots (drop l.j l.places) l.answer-iterator.rest.items ≡ with_answers l.initial.slots l.places l.fn.found.items;
}
