use Rattle.std.proofs.Common.{◌≡◌, ◌++◌, length, map, take}
use Rattle.statement.specs.Tests.{cells_of, longest_of, by_chain, word_in}
use Rattle.stil_vectors.specs.TestFiles.{text_of_bits}
use Rattle.stil_patterns.proofs.loading.push_ins.Given as goal

abbrev pub invariant-loop-c : goal.invariant-loop-c
invariant-loop-c l = record {
  start_is : l.start ≡ length (cells_of (take l.c l.chains));
  made : l.room.words ≡ l.initial.room.words ++ map text_of_bits (map (word_in (longest_of l.chains)) (by_chain (take l.c l.chains) l.bits));
}
