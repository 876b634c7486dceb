use Rattle.std.proofs.Common.{◌≡◌, map, take}
use Rattle.statement.specs.Stils.{quoted}
use Rattle.stil_read.proofs.assigned.in_quotes.Given as goal

abbrev pub invariant-loop-place : goal.invariant-loop-place
invariant-loop-place l = l.labels ≡ map quoted (take l.place l.names)
