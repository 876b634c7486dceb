use Rattle.std.proofs.Common.{◌≡◌, ◌++◌, take}
use Rattle.statement.specs.Stils.{joined}
use Rattle.stil_write.proofs.pieces.push_joined.Given as goal

abbrev pub invariant-loop-place : goal.invariant-loop-place
invariant-loop-place l = l.out.items ≡ l.fn.out.items ++ joined l.between (take l.place l.names)
