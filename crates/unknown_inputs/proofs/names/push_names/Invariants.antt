use Rattle.std.proofs.Common.{◌≡◌, ◌++◌, map, take}
use Rattle.statement.specs.Netlists.{name_of}
use Rattle.unknown_inputs.proofs.names.push_names.Given as goal

abbrev pub invariant-loop-x : goal.invariant-loop-x
invariant-loop-x l = l.names ≡ l.initial.names ++ map (name_of l.netlist) (take l.x-index l.ids)
