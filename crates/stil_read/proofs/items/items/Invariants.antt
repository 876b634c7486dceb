use Rattle.std.proofs.Common.{length}
use Rattle.stil_read.specs.Tokens.{tokens}
use Rattle.stil_read.specs.inner.Items.{AreItems}
use Rattle.stil_read.proofs.items.items.Given as goal

abbrev pub invariant-items : goal.invariant-items
invariant-items l = AreItems l.called l.assigned (tokens l.bytes) l.items (tokens l.rest)

abbrev pub decreases-items : goal.decreases-items
decreases-items l = length (tokens l.rest)
