use Rattle.std.proofs.Common.{◌≡◌, map, take}
use Rattle.statement.specs.Netlists.{signals}
use Rattle.scan_insert.specs.Scanned.{own_site}
use Rattle.scan_insert.proofs.sites.own_sites.Given as goal

abbrev pub invariant-loop-x : goal.invariant-loop-x
invariant-loop-x l = l.sites.items ≡ map own_site (take l.x (signals l.netlist))
