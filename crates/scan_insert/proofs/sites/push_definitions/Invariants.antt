use Rattle.std.proofs.Common.{◌≡◌, ◌++◌, ◌+◌, ◌*◌, ◌≤◌, drop}
use Rattle.scan_insert.specs.Scanned.{sites_from}
use Rattle.scan_insert.proofs.sites.push_definitions.Given as goal

abbrev pub invariant-loop-definition : goal.invariant-loop-definition
invariant-loop-definition l = record {
  made : l.sites.items ++ sites_from l.next (drop l.definition-index l.definitions) ≡ l.initial.sites.items ++ sites_from l.first l.definitions;
  room : l.next ≤ l.first + 5 * l.definition-index;
}
