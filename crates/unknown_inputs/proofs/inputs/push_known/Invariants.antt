use Rattle.std.proofs.Common.{◌≡◌, ◌++◌, drop}
use Rattle.unknown_inputs.specs.Unknowns.{known_part}
use Rattle.unknown_inputs.proofs.inputs.push_known.Given as goal

abbrev pub invariant-loop-k : goal.invariant-loop-k
invariant-loop-k l = l.known.items ++ known_part (drop l.k l.unknown) (drop l.k l.inputs) ≡ l.initial.known.items ++ known_part l.unknown l.inputs
