use Rattle.std.proofs.Common.{◌≡◌, take}
use Rattle.stil_write.specs.StilFiles.{item_at, words_of}
use Rattle.stil_vectors.specs.FileVectors.{bits_of, together}
use Rattle.stil_vectors.proofs.file_vectors.driven.Given as goal

abbrev pub invariant-loop-k : goal.invariant-loop-k
invariant-loop-k l = l.bits.items ≡ bits_of (together (take l.k (words_of (item_at l.items l.place))))
