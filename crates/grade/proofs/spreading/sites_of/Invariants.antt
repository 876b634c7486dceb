use Rattle.std.proofs.Common.{◌≡◌, map, take}
use Rattle.chain_test.specs.Hardware.{at_site}
use Rattle.grade.proofs.spreading.sites_of.Given as goal

abbrev pub invariant-loop-fault : goal.invariant-loop-fault
invariant-loop-fault l = l.sites.items ≡ map (at_site l.scanned.sites) (take l.fault-index l.faults)
