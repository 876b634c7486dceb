use Rattle.std.proofs.Common.{List, subst}
use Rattle.statement.specs.Patterns.{Pattern}
use Rattle.fewer_patterns.specs.inner.Enough.{AreEnough}
use Rattle.fewer_patterns.proofs.rounds.verified.Goals as goal

pub returns-in-Some : goal.returns-in-Some
returns-in-Some g c =
    let a = c.args.aim.now in
    let enough = rw c.in-Some.is at c.in_ok-found.ensures in
    subst (λ (ps : List Pattern). AreEnough a.core.now a.holds.now a.faults.now a.most ps c.in-Some.told.last.items) c.deref.ensures.value enough
