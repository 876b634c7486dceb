use Rattle.std.proofs.Common.{◌≡◌, ℕ, ◌<◌, true, None, length, get_or}
use Rattle.transition_tests.specs.Rounds.{unanswered}
use Rattle.transition_tests.proofs.rounds.second_round.Given as goal

abbrev pub invariant-loop-k : goal.invariant-loop-k
invariant-loop-k l = record {
  size : length l.marks.items ≡ l.k;
  each : (i : ℕ) → i < l.k → get_or l.marks.items i true ≡ unanswered (get_or l.left i true) (get_or l.found i None);
}
