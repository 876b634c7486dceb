use Rattle.std.proofs.Common.{◌≡◌, map, take}
use Rattle.scan_insert.specs.inner.Made.{stem_at}
use Rattle.scan_insert.proofs.cells.stems.Given as goal

abbrev pub invariant-loop-x : goal.invariant-loop-x
invariant-loop-x l = l.stems.items ≡ map (stem_at l.sites) (take l.x-index l.pins)
