use Rattle.std.proofs.Common.{◌≡◌, ℕ, ◌<◌, ◌&&◌, true, length, get_or}
use Rattle.transition_tests.specs.Rounds.{are_many, is_sixteenth}
use Rattle.transition_tests.proofs.rounds.first_round.Given as goal

abbrev pub invariant-loop-k : goal.invariant-loop-k
invariant-loop-k l = record {
  size : length l.marks.items ≡ l.k;
  each : (i : ℕ) → i < l.k → get_or l.marks.items i true ≡ (are_many l.left && is_sixteenth (get_or l.left i true) i);
}
