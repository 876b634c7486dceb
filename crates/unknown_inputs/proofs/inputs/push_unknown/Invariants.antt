use Rattle.std.proofs.Common.{◌≡◌, ◌++◌, drop}
use Rattle.unknown_inputs.specs.Unknowns.{unknown_part}
use Rattle.unknown_inputs.proofs.inputs.push_unknown.Given as goal

abbrev pub invariant-loop-k : goal.invariant-loop-k
invariant-loop-k l = l.others.items ++ unknown_part (drop l.k l.unknown) (drop l.k l.inputs) ≡ l.initial.others.items ++ unknown_part l.unknown l.inputs
