use Rattle.std.proofs.Common.{◌≡◌, ◌++◌, map, take}
use Rattle.scan_insert.specs.Scanned.{own_site}
use Rattle.scan_insert.proofs.sites.push_inputs.Given as goal

abbrev pub invariant-loop-x : goal.invariant-loop-x
invariant-loop-x l = l.sites.items ≡ l.initial.sites.items ++ map own_site (take l.x-index l.inputs)
