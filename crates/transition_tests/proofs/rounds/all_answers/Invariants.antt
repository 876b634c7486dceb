use Rattle.std.proofs.Common.{◌≡◌, ◌++◌, ℕ, ◌<◌, ◌≤◌, true, None, length, get_or}
use Rattle.transition_tests.specs.Rounds.{joined}
use Rattle.transition_tests.proofs.rounds.all_answers.Given as goal

abbrev pub invariant-loop-answer : goal.invariant-loop-answer
invariant-loop-answer l = record {
  count : l.k ≡ length l.yielded;
  left : l.yielded ++ l.answer-iterator.rest.items ≡ l.fn.found.items;
  size : length l.answers.items ≡ length l.left;
  done : (i : ℕ) → i < l.k → get_or l.answers.items i None ≡ joined (get_or l.left i true) (get_or l.fn.found.items i None) (get_or l.fn.more.items i None);
  later : (i : ℕ) → l.k ≤ i → get_or l.answers.items i None ≡ get_or l.fn.more.items i None;
}
