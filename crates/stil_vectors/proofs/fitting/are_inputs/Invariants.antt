use Rattle.std.proofs.Common.{◌≡◌, map, take}
use Rattle.statement.specs.Netlists.{name_of}
use Rattle.stil_vectors.proofs.fitting.are_inputs.Given as goal

abbrev pub invariant-loop-place : goal.invariant-loop-place
invariant-loop-place l = take l.place l.names ≡ map (name_of l.netlist) (take l.place l.netlist.inputs)
