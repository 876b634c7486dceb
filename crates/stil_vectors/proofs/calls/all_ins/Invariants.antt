use Rattle.std.proofs.Common.{◌≡◌, false, map, take}
use Rattle.std.specs.List.{flat_map}
use Rattle.statement.specs.Runs.{numbers_from}
use Rattle.statement.specs.Tests.{column}
use Rattle.stil_write.specs.StilFiles.{item_at, words_of}
use Rattle.stil_vectors.specs.FileVectors.{bits_of}
use Rattle.stil_vectors.proofs.calls.all_ins.Given as goal

abbrev pub invariant-loop-t : goal.invariant-loop-t
invariant-loop-t l = l.ins.items ≡ flat_map (column false (map bits_of (take l.chains (words_of (item_at l.items l.place))))) (numbers_from 0 l.t)
