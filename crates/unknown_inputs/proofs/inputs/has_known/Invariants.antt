use Rattle.std.proofs.Common.{◌≡◌, drop}
use Rattle.unknown_inputs.specs.Unknowns.{known_part}
use Rattle.unknown_inputs.proofs.inputs.has_known.Given as goal

abbrev pub invariant-loop-k : goal.invariant-loop-k
invariant-loop-k l = known_part (drop l.k l.unknown) (drop l.k l.netlist.inputs) ≡ known_part l.unknown l.netlist.inputs
