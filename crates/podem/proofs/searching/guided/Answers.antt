use Rattle.std.proofs.Common.{ap, subst, sym}
use Rattle.pair_sim.specs.Sims.{Sim, IsNotBlocked}
use Rattle.podem.proofs.Steps.{chosen_from}
use Rattle.podem.proofs.Turns.{going_open}
use Rattle.podem.proofs.searching.guided.Goals as goal

pub best_aim-requires-clause-same : goal.best_aim-requires-clause-same
best_aim-requires-clause-same c = ap (λ (r : Sim). r.netlist) c.requires.1.at.at

pub best_aim-requires-clause-not_blocked : goal.best_aim-requires-clause-not_blocked
best_aim-requires-clause-not_blocked c =
    let k = c.args.case.now in
    subst (λ (r : Sim). IsNotBlocked r) (sym c.requires.1.at.at) (going_open k.fault k.core.now k.holds.now c.requires.1.case.sound _ c.requires.1.going)

pub returns : goal.returns
returns c = chosen_from c.requires.1.at c.in_ok-signal.signal c.in_ok-signal.ensures.0 c.in_ok-signal.ensures.1
