use Rattle.std.proofs.Common.{take}
use Rattle.std.specs.List.{All}
use Rattle.stil_write.specs.StilFiles.{IsItem}
use Rattle.stil_write.specs.Parts.{file_of}
use Rattle.stil_write.proofs.checking.are_items.Given as goal

abbrev pub invariant-loop-place : goal.invariant-loop-place
invariant-loop-place l = All (IsItem (file_of l.parts)) (take l.place l.parts.items)
