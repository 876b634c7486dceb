use Rattle.std.proofs.Common.{◌≡◌, ◌++◌, map, take}
use Rattle.statement.specs.Netlists.{Definition, name_of}
use Rattle.unknown_inputs.proofs.names.push_definitions.Given as goal

abbrev pub invariant-loop-definition : goal.invariant-loop-definition
invariant-loop-definition l = l.names ≡ l.initial.names ++ map (λ (d : Definition). name_of l.netlist d.id) (take l.definition-index l.netlist.definitions)
