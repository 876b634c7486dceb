use Rattle.std.proofs.Common.{sym, subst}
use Rattle.redundancy_cert.specs.inner.Walk.{IsAt}
use Rattle.redundancy_cert.proofs.StepLemmas.{entered}
use Rattle.redundancy_cert.proofs.steps.descend.Goals as goal

pub returns-clause-at : goal.returns-clause-at
returns-clause-at c =
    subst (IsAt c.decide.new.self) (sym c.in_ok-push.ensures.items)
    (entered c.args.pass.now c.decide.new.self c.args.path.now.items c.args.step c.standing.ensures c.requires.at c.requires.free c.requires.within c.decide.ensures)
