use Rattle.std.proofs.Common.{◌≡◌, ◌++◌, take}
use Rattle.std.specs.List.{flat_map}
use Rattle.stil_write.specs.Pieces.{item_line}
use Rattle.stil_write.proofs.writer.push_items.Given as goal

abbrev pub invariant-loop-place : goal.invariant-loop-place
invariant-loop-place l = l.out.items ≡ l.fn.out.items ++ flat_map (item_line l.called l.assigned) (take l.place l.items)
