use Rattle.std.proofs.lemmas.Bool.{both_ways}
use Rattle.diagnose.specs.inner.Ranks.{failing}
use Rattle.diagnose.proofs.DividingLemmas.{added, added_not}
use Rattle.diagnose.proofs.dividing.with_once.Goals as goal

pub returns-then-has : goal.returns-then-has
returns-then-has c = added_not (failing c.args.cycle c.args.signal.now) c.args.lines (c.has.ensures.0 c.if-has.true)

pub returns : goal.returns
returns c = added (failing c.args.cycle c.args.signal.now) c.args.lines c.in_ok-more.more (λ h. both_ways c.has.result c.if-has.false (c.has.ensures.1 h)) c.in_ok-more.ensures
