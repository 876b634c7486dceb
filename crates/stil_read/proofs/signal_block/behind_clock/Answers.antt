use Rattle.std.proofs.Common.{◌≡◌, ◌++◌, List, subst}
use Rattle.std.specs.Prelude.{MatchOption}
use Rattle.stil_read.specs.Tokens.{Token, tokens}
use Rattle.stil_read.proofs.StepLemmas.{clock_line}
use Rattle.stil_read.proofs.signal_block.behind_clock.Goals as goal

pub returns : goal.returns
returns c =
    subst (λ (line : List Token). MatchOption c.expect.result ((ts : List Token) → tokens c.args.bytes.now ≡ line ++ ts → ⊥) (λ rest. tokens c.args.bytes.now ≡ line ++ tokens rest.now))
    (clock_line c.args.chains c.if-chains-eq0.false) c.expect.ensures.found
