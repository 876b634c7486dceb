use Rattle.std.proofs.Common.{◌≡◌, ◌++◌, replicate}
use Rattle.stil_patterns.proofs.capturing.push_copies.Given as goal

abbrev pub invariant-loop : goal.invariant-loop
invariant-loop l = l.words ≡ l.fn.words ++ replicate l.counter l.word
