use Rattle.std.proofs.Common.{◌≡◌, map, take}
use Rattle.run_files.specs.inner.Classes.{is_zero}
use Rattle.run_files.proofs.asked.weightless.Given as goal

abbrev pub invariant-loop-weight : goal.invariant-loop-weight
invariant-loop-weight l = l.marks.items ≡ map is_zero (take l.weight-index l.weights)
