use Rattle.std.proofs.Common.{◌≡◌, take}
use Rattle.stil_write.specs.StilFiles.{item_at, words_of}
use Rattle.stil_patterns.specs.Applied.{cells_in}
use Rattle.stil_patterns.proofs.reading.cells_in.Given as goal

abbrev pub invariant-loop-c : goal.invariant-loop-c
invariant-loop-c l = l.cells.items ≡ cells_in (take l.c l.chains) (take l.count (words_of (item_at l.items l.place)))
