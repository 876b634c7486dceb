use Rattle.std.proofs.Common.{◌≡◌, ◌++◌, ℕ, length, get_or, take}
use Rattle.transition_tests.specs.inner.Ends.{AreVerdictsOf}
use Rattle.transition_tests.proofs.keeping.verdicts_of.Given as goal

abbrev pub invariant-loop-answer : goal.invariant-loop-answer
invariant-loop-answer l = record {
  count : l.fault ≡ length l.yielded;
  left : l.yielded ++ l.answer-iterator.rest.items ≡ l.fn.found.items;
  ends : AreVerdictsOf (λ (k : ℕ). get_or l.fn.places k 0) l.yielded (take l.fault l.last) l.verdicts.items;
}
