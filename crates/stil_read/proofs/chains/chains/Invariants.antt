use Rattle.stil_read.specs.Tokens.{tokens}
use Rattle.stil_read.specs.inner.Grammar.{AreChains}
use Rattle.stil_read.proofs.chains.chains.Given as goal

abbrev pub invariant-chains : goal.invariant-chains
invariant-chains l = AreChains l.counter (tokens l.bytes) l.chains.items (tokens l.rest)
