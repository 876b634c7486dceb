use Rattle.std.proofs.Common.{◌≡◌, length}
use Rattle.stil_read.specs.Tokens.{tokens}
use Rattle.stil_read.specs.inner.Skips.{behind_first}
use Rattle.stil_read.proofs.skipping.behind_first.Given as goal

abbrev pub invariant-skip : goal.invariant-skip
invariant-skip l = behind_first l.word (tokens l.bytes) ≡ behind_first l.word (tokens l.rest)

abbrev pub decreases-skip : goal.decreases-skip
decreases-skip l = length l.rest
