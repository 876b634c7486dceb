use Rattle.std.proofs.Common.{◌≡◌, ◌++◌, map, take}
use Rattle.unknown_inputs.specs.Opened.{number_by, definition_by}
use Rattle.unknown_inputs.proofs.parts.push_definitions.Given as goal

abbrev pub invariant-loop-definition : goal.invariant-loop-definition
invariant-loop-definition l = l.made.items ≡ l.initial.made.items ++ map (definition_by (number_by l.numbers)) (take l.definition-index l.netlist.definitions)
