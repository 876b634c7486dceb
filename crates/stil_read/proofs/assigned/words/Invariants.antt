use Rattle.std.proofs.Common.{take}
use Rattle.stil_read.specs.Tokens.{tokens}
use Rattle.stil_read.specs.inner.Assigned.{AreAssigned}
use Rattle.stil_read.proofs.assigned.words.Given as goal

abbrev pub invariant-loop-place : goal.invariant-loop-place
invariant-loop-place l = AreAssigned (take l.place l.labels) (tokens l.bytes) l.words (tokens l.rest)
