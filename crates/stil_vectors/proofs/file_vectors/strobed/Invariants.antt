use Rattle.std.proofs.Common.{◌≡◌, ◌-◌, take, drop}
use Rattle.stil_write.specs.StilFiles.{item_at, words_of}
use Rattle.stil_vectors.specs.FileVectors.{together, values_of}
use Rattle.stil_vectors.proofs.file_vectors.strobed.Given as goal

abbrev pub invariant-loop-k : goal.invariant-loop-k
invariant-loop-k l = l.values.items ≡ values_of (together (take (l.k - l.start) (drop l.start (words_of (item_at l.items l.place)))))
