use Rattle.std.proofs.Common.{[], List, subst}
use Rattle.statement.specs.Patterns.{Pattern}
use Rattle.run_files.specs.inner.Often.{AreJoined}
use Rattle.run_files.proofs.OftenLemmas.{first_gathered}
use Rattle.run_files.proofs.repeating.repeated.Goals as goal

pub loop-round-init : goal.loop-round-init
loop-round-init g c =
    let given = c.args.patterns.items in
    let all = c.in_ok-all.all.items in
    let joined : AreJoined [] given all = subst (λ (ps : List Pattern). AreJoined ps given all) c.new.ensures.items c.in_ok-all.ensures in
    first_gathered c.args.errand.now.core.now c.args.errand.now.holds.now c.args.faults.now given all joined c.requires.obey c.requires.small

pub returns : goal.returns
returns g c = c.loop-round.invariant
