use Rattle.std.proofs.Common.{◌≡◌}
use Rattle.fan.proofs.forcing.find_at.Given as goal

abbrev pub invariant-loop-pin : goal.invariant-loop-pin
invariant-loop-pin l = l.labels ≡ l.initial.labels
