use Rattle.std.proofs.Common.{◌++◌}
use Rattle.known_tests.proofs.Driven.{ObeysBelow}
use Rattle.known_tests.proofs.obeying.is_obeyed.Given as goal

abbrev pub invariant-loop-place : goal.invariant-loop-place
invariant-loop-place l = ObeysBelow l.held (l.drive ++ l.more) l.place
