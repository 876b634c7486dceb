use Rattle.std.proofs.Common.{◌≡◌, ◌++◌, map, take}
use Rattle.statement.specs.Values.{known}
use Rattle.stil_vectors.specs.TestFiles.{text_of_values}
use Rattle.stil_patterns.proofs.words.push_strobes.Given as goal

abbrev pub invariant-loop-bit : goal.invariant-loop-bit
invariant-loop-bit l = l.word.items ≡ l.initial.word.items ++ text_of_values (map known (take l.bit-index l.bits))
