use Rattle.std.proofs.Common.{◌≡◌, take}
use Rattle.std.specs.List.{flat_map}
use Rattle.scan_play.specs.Bursts.{all_cycles}
use Rattle.statement.specs.Tests.{cycles_of_item}
use Rattle.stil_vectors.proofs.file_vectors.bursts.Given as goal

abbrev pub invariant-loop-place : goal.invariant-loop-place
invariant-loop-place l = all_cycles l.bursts.items ≡ flat_map (cycles_of_item l.file) (take l.place l.file.items)
