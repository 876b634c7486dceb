use Rattle.std.proofs.Common.{◌≡◌, map, take}
use Rattle.statement.specs.Tests.{held_or_zero}
use Rattle.scan_play.proofs.loading.shift_drive.Given as goal

abbrev pub invariant-loop-k : goal.invariant-loop-k
invariant-loop-k l = l.drive.items ≡ map held_or_zero (take l.k l.holds)
