use Rattle.std.proofs.Common.{◌≡◌, take}
use Rattle.statement.specs.Tests.{word_in}
use Rattle.stil_vectors.specs.TestFiles.{text_of_bits}
use Rattle.stil_patterns.proofs.words.set_word_in.Given as goal

abbrev pub invariant-loop-t : goal.invariant-loop-t
invariant-loop-t l = l.word.items ≡ text_of_bits (take l.t (word_in l.m l.own))
