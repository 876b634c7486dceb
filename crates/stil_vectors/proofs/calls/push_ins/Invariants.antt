use Rattle.std.proofs.Common.{◌≡◌, ◌++◌, false, map, take}
use Rattle.statement.specs.Tests.{column}
use Rattle.stil_write.specs.StilFiles.{item_at, words_of}
use Rattle.stil_vectors.specs.FileVectors.{bits_of}
use Rattle.stil_vectors.proofs.calls.push_ins.Given as goal

abbrev pub invariant-loop-chain : goal.invariant-loop-chain
invariant-loop-chain l = l.ins.items ≡ l.fn.ins.items ++ column false (map bits_of (take l.chain (words_of (item_at l.items l.place)))) l.t
