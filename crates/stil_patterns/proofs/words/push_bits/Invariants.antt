use Rattle.std.proofs.Common.{◌≡◌, ◌++◌, take}
use Rattle.stil_vectors.specs.TestFiles.{text_of_bits}
use Rattle.stil_patterns.proofs.words.push_bits.Given as goal

abbrev pub invariant-loop-bit : goal.invariant-loop-bit
invariant-loop-bit l = l.word.items ≡ l.initial.word.items ++ text_of_bits (take l.bit-index l.bits)
