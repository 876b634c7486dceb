use Rattle.std.proofs.Common.{◌≡◌, ◌++◌, length}
use Rattle.stil_read.specs.Tokens.{tokens}
use Rattle.stil_read.specs.inner.Signals.{signal_tokens}
use Rattle.stil_read.proofs.signals.signals.Given as goal

abbrev pub invariant-names : goal.invariant-names
invariant-names l = tokens l.bytes ≡ signal_tokens l.kind l.names ++ tokens l.rest

abbrev pub decreases-names : goal.decreases-names
decreases-names l = length l.rest
