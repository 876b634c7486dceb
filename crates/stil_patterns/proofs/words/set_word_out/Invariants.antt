use Rattle.std.proofs.Common.{◌≡◌, take}
use Rattle.statement.specs.Tests.{word_out}
use Rattle.stil_vectors.specs.TestFiles.{text_of_values}
use Rattle.stil_patterns.proofs.words.set_word_out.Given as goal

abbrev pub invariant-loop-t : goal.invariant-loop-t
invariant-loop-t l = l.word.items ≡ text_of_values (take l.t (word_out l.m l.own))
