use Rattle.std.proofs.Common.{ap, subst, sym}
use Rattle.pair_sim.specs.Sims.{Sim, IsNotBlocked}
use Rattle.podem.proofs.Turns.{going_open}
use Rattle.podem.proofs.searching.take_turn.Goals as goal

pub follow-requires-clause-same : goal.follow-requires-clause-same
follow-requires-clause-same c = ap (λ (r : Sim). r.netlist) c.requires.at.at

pub follow-requires-clause-not_blocked : goal.follow-requires-clause-not_blocked
follow-requires-clause-not_blocked c =
    let k = c.args.case.now in
    subst (λ (r : Sim). IsNotBlocked r) (sym c.requires.at.at) (going_open k.fault k.core.now k.holds.now c.requires.case.sound _ c.requires.going)

pub choose-aim-requires : goal.choose-aim-requires
choose-aim-requires c = (c.args.looks, c.requires)
