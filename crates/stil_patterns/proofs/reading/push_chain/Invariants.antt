use Rattle.std.proofs.Common.{◌≡◌, ◌++◌, reverse, take}
use Rattle.stil_vectors.specs.FileVectors.{bits_of}
use Rattle.stil_patterns.proofs.reading.push_chain.Given as goal

abbrev pub invariant-loop-k : goal.invariant-loop-k
invariant-loop-k l = l.cells.items ≡ l.initial.cells.items ++ take l.k (reverse (bits_of l.word))
