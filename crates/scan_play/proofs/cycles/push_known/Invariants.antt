use Rattle.std.proofs.Common.{◌≡◌, ◌++◌, map, take}
use Rattle.statement.specs.Values.{known}
use Rattle.scan_play.proofs.cycles.push_known.Given as goal

abbrev pub invariant-loop-bit : goal.invariant-loop-bit
invariant-loop-bit l = l.values.items ≡ l.initial.values.items ++ map known (take l.bit-index l.bits)
