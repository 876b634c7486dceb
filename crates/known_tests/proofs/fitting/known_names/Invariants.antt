use Rattle.std.proofs.Common.{◌≡◌, map, take}
use Rattle.statement.specs.Netlists.{name_of}
use Rattle.unknown_inputs.specs.Unknowns.{known_part}
use Rattle.known_tests.proofs.fitting.known_names.Given as goal

abbrev pub invariant-loop-place : goal.invariant-loop-place
invariant-loop-place l = l.names ≡ map (name_of l.netlist) (known_part l.unknown (take l.place l.netlist.inputs))
