use Rattle.std.proofs.Common.{ℕ, ◌<◌}
use Rattle.std.specs.List.{All}
use Rattle.worker.proofs.dealing.numbers_of.Given as goal

abbrev pub invariant-loop-head : goal.invariant-loop-head
invariant-loop-head l = All (λ (p : ℕ). p < l.parts) l.numbers.items
