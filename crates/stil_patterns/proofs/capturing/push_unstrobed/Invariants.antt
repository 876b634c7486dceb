use Rattle.std.proofs.Common.{◌≡◌, ◌++◌, replicate}
use Rattle.statement.specs.declared.kinds.Tri.TheVariants.{X}
use Rattle.statement.specs.Tests.{char_of_value}
use Rattle.stil_patterns.proofs.capturing.push_unstrobed.Given as goal

abbrev pub invariant-loop : goal.invariant-loop
invariant-loop l = l.word.items ≡ l.fn.word.items ++ replicate l.counter (char_of_value X)
