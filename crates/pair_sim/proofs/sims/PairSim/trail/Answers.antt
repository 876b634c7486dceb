use Rattle.std.proofs.Common.{ℕ, List, sym, ◌∙◌, subst}
use Rattle.netlist.specs.Conditions.{IsSound}
use Rattle.pair_sim.specs.Sims.{Sim, HasContradiction, AreChangedSignals}
use Rattle.pair_sim.proofs.StateLemmas.{names_changed}
use Rattle.pair_sim.proofs.sims.PairSim.trail.Goals as goal

pub returns : goal.returns
returns c possible =
    let i = c.self.inside in
    let sound : IsSound i.events.netlist = subst IsSound (c.netlist.ensures ∙ c.core.ensures) c.sound.ensures in
    subst (λ (ns : List ℕ). AreChangedSignals c.args.self.now ns) (sym c.deref.ensures.value)
    (subst (λ (s : Sim). AreChangedSignals s i.names.items) c.self.view_is
    (names_changed i.fault i.events.netlist i.holds.now i.labelling.decided.items i.levels.items i.names.items i.events.values i.events.trail c.self.invariant.0.kept sound
    (λ w. possible (subst HasContradiction c.self.view_is w))))
