use Rattle.std.proofs.Common.{map, take}
use Rattle.std.specs.List.{flat_map}
use Rattle.statement.specs.Faults.{faults_of}
use Rattle.chain_test.specs.Hardware.{at_site}
use Rattle.chain_test.specs.inner.Merged.{Walks}
use Rattle.chain_test.proofs.hardware.walk_lines.Given as goal

abbrev pub invariant-loop-line : goal.invariant-loop-line
invariant-loop-line l = Walks (map (at_site l.scanned.sites) l.faults) (flat_map faults_of (take l.line-index l.lines)) l.fn.place l.fn.found.items l.place l.found.items
