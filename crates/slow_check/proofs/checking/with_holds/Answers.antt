use Rattle.slow_check.proofs.CheckLemmas.{no_stil, patterns_by}
use Rattle.slow_check.proofs.checking.with_holds.Goals as goal

pub returns-in-Ok-Some : goal.returns-in-Ok-Some
returns-in-Ok-Some c =
    let are = rw c.in-Ok-Some.field-0-is at c.in-Ok-Some.ensures in
    patterns_by c.args.said.now c.args.holds.now c.in-Ok-Some.patterns.items c.args.made.now.chains c.requires.made.chains_are are.0 are.1 c.posed.result c.posed.ensures

pub returns-in-Ok-None : goal.returns-in-Ok-None
returns-in-Ok-None c =
    no_stil c.args.said.now c.args.holds.now c.args.made.now.chains c.requires.made.chains_are (rw c.in-Ok-None.field-0-is at c.in-Ok-None.ensures)
