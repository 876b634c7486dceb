use Rattle.std.proofs.Common.{◌≡◌, ◌++◌, take}
use Rattle.stil_vectors.specs.FileVectors.{values_of}
use Rattle.stil_vectors.proofs.characters.push_values.Given as goal

abbrev pub invariant-loop-b : goal.invariant-loop-b
invariant-loop-b l = l.values.items ≡ l.fn.values.items ++ values_of (take l.b-index l.word)
