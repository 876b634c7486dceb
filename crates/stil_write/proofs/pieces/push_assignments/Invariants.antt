use Rattle.std.proofs.Common.{◌≡◌, ◌++◌, take}
use Rattle.statement.specs.Stils.{assignments}
use Rattle.stil_write.specs.StilFiles.{item_at, words_of}
use Rattle.stil_write.proofs.pieces.push_assignments.Given as goal

abbrev pub invariant-loop-k : goal.invariant-loop-k
invariant-loop-k l = l.out.items ≡ l.fn.out.items ++ assignments (take l.k l.signals) (take l.k (words_of (item_at l.items l.place)))
