use Rattle.std.proofs.Common.{◌≡◌, length, take}
use Rattle.std.specs.List.{flat_map}
use Rattle.statement.specs.Tests.{cycles_of_item}
use Rattle.stil_vectors.proofs.playing.cycle_count.Given as goal

abbrev pub invariant-loop-place : goal.invariant-loop-place
invariant-loop-place l = l.count ≡ length (flat_map (cycles_of_item l.file) (take l.place l.file.items))
