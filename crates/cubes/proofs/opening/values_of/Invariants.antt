use Rattle.std.proofs.Common.{◌≡◌, map, take}
use Rattle.tri.specs.Labels.{held_value}
use Rattle.cubes.proofs.opening.values_of.Given as goal

abbrev pub invariant-loop-input : goal.invariant-loop-input
invariant-loop-input l = l.values.items ≡ map held_value (take l.input l.holds)
