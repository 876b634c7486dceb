use Rattle.std.proofs.Common.{◌≡◌, take}
use Rattle.stil_vectors.specs.FileVectors.{bits_of}
use Rattle.stil_patterns.proofs.reading.inputs_in.Given as goal

abbrev pub invariant-loop-k : goal.invariant-loop-k
invariant-loop-k l = l.inputs.items ≡ take l.k (bits_of l.word)
