use Rattle.std.proofs.Common.{◌≡◌, ◌++◌, take}
use Rattle.stil_vectors.specs.FileVectors.{bits_of}
use Rattle.stil_vectors.proofs.characters.push_bits.Given as goal

abbrev pub invariant-loop-b : goal.invariant-loop-b
invariant-loop-b l = l.bits.items ≡ l.fn.bits.items ++ bits_of (take l.b-index l.word)
