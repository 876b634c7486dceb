use Rattle.std.proofs.Common.{◌≡◌, sym, ◌∙◌, subst, vec_capacity, List, ◌++◌, ◌∷◌, [], arith}
use Rattle.netlist.specs.Conditions.{IsSound}
use Rattle.pair_sim.specs.declared.levels.Level.{Level}
use Rattle.pair_sim.specs.inner.Stored.{IsStored}
use Rattle.statement.specs.Netlists.{Netlist}
use Rattle.pair_sim.specs.inner.Reach.{IsReach}
use Rattle.pair_sim.proofs.StoreLemmas.{trail_room, back_netlist, stored_undone}
use Rattle.pair_sim.proofs.sims.PairSim.undo.Goals as goal

pub take_back-requires-clause-room : goal.take_back-requires-clause-room
take_back-requires-clause-room c =
    let i = c.self.inside in
    let sound : IsSound i.events.netlist = subst IsSound (c.netlist.ensures ∙ c.core.ensures) c.sound.ensures in
    trail_room i.fault i.holds.now i.labelling.fault i.labelling.decided.items i.levels.items i.names.items i.events (vec_capacity i.levels) (vec_capacity i.names) sound c.self.invariant.0

pub invariant_of-self : goal.invariant_of-self
invariant_of-self c =
    let i = c.self.inside in
    let sound : IsSound i.events.netlist = subst IsSound (c.netlist.ensures ∙ c.core.ensures) c.sound.ensures in
    let stored : IsStored i.fault i.holds.now i.labelling.fault i.labelling.decided.items (c.pop.new.self.items ++ c.in-Some.level ∷ []) i.names.items i.events (vec_capacity i.levels) (vec_capacity i.names) =
    subst (λ (vs : List Level). IsStored i.fault i.holds.now i.labelling.fault i.labelling.decided.items vs i.names.items i.events (vec_capacity i.levels) (vec_capacity i.names)) c.in-Some.ensures.items c.self.invariant.0 in
    let level_cap = c.in-Some.ensures.capacity in
    let name_cap = c.take_back.ensures.room in
    let r = i.reach in
    let netlist : c.take_back.new.events.netlist ≡ i.events.netlist = back_netlist i.fault i.holds.now i.labelling c.take_back.new.labelling c.pop.new.self.items c.in-Some.level i.names.items c.take_back.new.names.items i.events c.take_back.new.events
    (vec_capacity i.levels) (vec_capacity i.names) (vec_capacity c.pop.new.self) (vec_capacity c.take_back.new.names) stored sound c.take_back.ensures.back in (
      stored_undone i.fault i.holds.now i.labelling c.take_back.new.labelling c.pop.new.self.items c.in-Some.level i.names.items c.take_back.new.names.items i.events c.take_back.new.events
          (vec_capacity i.levels) (vec_capacity i.names) (vec_capacity c.pop.new.self) (vec_capacity c.take_back.new.names) stored sound c.take_back.ensures.back (omega arith) (omega arith),
      subst (λ (n : Netlist). IsReach i.fault n i.holds.now r.points.seen.items r.points.first.items r.points.numbers.items r.known r.signals.items (vec_capacity r.signals)) (sym netlist) c.self.invariant.1,
    )
