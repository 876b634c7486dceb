use Rattle.std.proofs.Common.{◌≡◌, ◌++◌, take}
use Rattle.std.specs.List.{flat_map}
use Rattle.scan_insert.specs.Names.{definition_names}
use Rattle.scan_insert.proofs.signal_names.push_definitions.Given as goal

abbrev pub invariant-loop-definition : goal.invariant-loop-definition
invariant-loop-definition l = l.names ≡ l.initial.names ++ flat_map (definition_names l.netlist) (take l.definition-index l.netlist.definitions)
