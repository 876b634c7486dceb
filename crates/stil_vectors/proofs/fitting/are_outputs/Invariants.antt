use Rattle.std.proofs.Common.{◌≡◌, map, take}
use Rattle.statement.specs.Runs.{output_name}
use Rattle.stil_vectors.proofs.fitting.are_outputs.Given as goal

abbrev pub invariant-loop-place : goal.invariant-loop-place
invariant-loop-place l = take l.place l.names ≡ map (output_name l.netlist) (take l.place l.netlist.outputs)
