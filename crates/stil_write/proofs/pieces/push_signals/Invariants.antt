use Rattle.std.proofs.Common.{◌≡◌, ◌++◌, take}
use Rattle.stil_write.specs.Pieces.{signal_lines}
use Rattle.stil_write.proofs.pieces.push_signals.Given as goal

abbrev pub invariant-loop-place : goal.invariant-loop-place
invariant-loop-place l = l.out.items ≡ l.fn.out.items ++ signal_lines l.kind (take l.place l.names)
