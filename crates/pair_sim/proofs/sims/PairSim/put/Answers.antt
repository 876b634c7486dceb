use Rattle.std.proofs.Common.{◌≡◌, [], ◌∙◌, ap, subst, vec_capacity, arith}
use Rattle.netlist.specs.Conditions.{IsSound}
use Rattle.pair_sim.specs.Sims.{Sim}
use Rattle.pair_sim.proofs.StoreLemmas.{trail_room}
use Rattle.pair_sim.proofs.Faulting.{no_levels, stored_put, reach_put}
use Rattle.pair_sim.proofs.sims.PairSim.put.Goals as goal

pub replace_fault-requires-clause-room : goal.replace_fault-requires-clause-room
replace_fault-requires-clause-room c =
    let i = c.self.inside in
    let sound : IsSound i.events.netlist = subst IsSound (c.netlist.ensures ∙ c.core.ensures) c.sound.ensures in
    trail_room i.fault i.holds.now i.labelling.fault i.labelling.decided.items i.levels.items i.names.items i.events (vec_capacity i.levels) (vec_capacity i.names) sound c.self.invariant.0

pub invariant_of-self : goal.invariant_of-self
invariant_of-self c =
    let i = c.self.inside in
    let none : i.levels.items ≡ [] = no_levels i.levels.items (ap (λ (s : Sim). s.path) c.self.view_is ∙ c.requires.none) in
    let capacity = c.clear.ensures.capacity in
    let sound : IsSound i.events.netlist = subst IsSound (c.netlist.ensures ∙ c.core.ensures) c.sound.ensures in (
      stored_put i.fault c.args.fault i.holds.now i.labelling c.replace_fault.new.labelling i.levels.items i.names.items c.clear.new.self.items i.events c.replace_fault.new.events
          (vec_capacity i.levels) (vec_capacity i.names) (vec_capacity c.clear.new.self) c.self.invariant.0 none c.replace_fault.ensures.put c.clear.ensures.items (omega arith),
      reach_put i.fault c.args.fault i.holds.now i.labelling c.replace_fault.new.labelling i.reach c.replace_fault.new.reach i.levels.items i.names.items i.events c.replace_fault.new.events
          (vec_capacity i.levels) (vec_capacity i.names) sound c.self.invariant.0 none c.self.invariant.1 c.replace_fault.ensures,
    )
