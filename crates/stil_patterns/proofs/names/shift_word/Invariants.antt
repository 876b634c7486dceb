use Rattle.std.proofs.Common.{◌≡◌, map, take}
use Rattle.statement.specs.Tests.{held_or_zero}
use Rattle.stil_vectors.specs.TestFiles.{text_of_bits}
use Rattle.stil_patterns.proofs.names.shift_word.Given as goal

abbrev pub invariant-loop-k : goal.invariant-loop-k
invariant-loop-k l = l.word.items ≡ text_of_bits (map held_or_zero (take l.k l.holds))
