use Rattle.std.proofs.Common.{◌≡◌, ◌+◌, length}
use Rattle.stil_read.specs.inner.Shown.{word_len}
use Rattle.stil_read.proofs.token.word_len.Given as goal

abbrev pub invariant-word : goal.invariant-word
invariant-word l = (l.len + word_len l.rest ≡ word_len l.bytes) × (l.len + length l.rest ≡ length l.bytes)

abbrev pub decreases-word : goal.decreases-word
decreases-word l = length l.rest
