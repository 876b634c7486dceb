use Rattle.std.proofs.Common.{◌≡◌, List, not, reverse, vec_capacity, sym, ◌∙◌, ap, subst, arith}
use Rattle.std.proofs.lemmas.Bool.{both_ways}
use Rattle.netlist.specs.Conditions.{IsSound}
use Rattle.tri.specs.Paths.{IsUnknown}
use Rattle.pair_sim.specs.Sims.{Sim, IsFree}
use Rattle.pair_sim.specs.declared.levels.Level.{Level}
use Rattle.pair_sim.specs.inner.Levels.{path_of, is_contradicted}
use Rattle.statement.specs.Netlists.{Netlist}
use Rattle.pair_sim.specs.inner.Reach.{IsReach}
use Rattle.pair_sim.proofs.StoreLemmas.{trail_room, name_room, room_on_levels, same_netlist, stored_assigned}
use Rattle.pair_sim.proofs.sims.PairSim.assign.Goals as goal

pub relabel-requires-clause-room : goal.relabel-requires-clause-room
relabel-requires-clause-room c =
    let i = c.self.inside in
    let sound : IsSound i.events.netlist = subst IsSound (c.netlist.ensures ∙ c.core.ensures) c.sound.ensures in
    trail_room i.fault i.holds.now i.labelling.fault i.labelling.decided.items i.levels.items i.names.items i.events (vec_capacity i.levels) (vec_capacity i.names) sound c.self.invariant.0

pub note-contradicted-requires-clause-room : goal.note-contradicted-requires-clause-room
note-contradicted-requires-clause-room c =
    let i = c.self.inside in
    let sound : IsSound i.events.netlist = subst IsSound (c.netlist.ensures ∙ c.core.ensures) c.sound.ensures in
    name_room i.fault i.holds.now i.labelling.fault i.labelling.decided.items i.levels.items i.names.items i.events c.relabel.new.events (vec_capacity i.levels) (vec_capacity i.names)
    c.mark-mark.result sound c.self.invariant.0 c.relabel.ensures.moves c.mark-mark.ensures

pub unreachable-requires : goal.unreachable-requires
unreachable-requires c =
    let i = c.self.inside in
    let sound : IsSound i.events.netlist = subst IsSound (c.netlist.ensures ∙ c.core.ensures) c.sound.ensures in
    let free : IsUnknown i.fault i.events.netlist i.holds.now (path_of (reverse i.levels.items)) c.args.signal =
    subst (λ (s : Sim). IsFree s c.args.signal) (sym c.self.view_is) c.requires in
    let l = room_on_levels i.fault i.holds.now i.labelling c.relabel.new.labelling i.levels.items i.names.items i.events c.relabel.new.events (vec_capacity i.levels) (vec_capacity i.names)
    c.args.signal c.args.bit sound c.self.invariant.0 free c.relabel.ensures in
    let ok = c.push.ensures.succeeds (let v = i.levels.ok.0 in omega arith) in
    both_ways _ (c.is_err.ensures.negation ∙ ap not c.if-is_err.true) ok

pub invariant_of-self : goal.invariant_of-self
invariant_of-self c =
    let i = c.self.inside in
    let sound : IsSound i.events.netlist = subst IsSound (c.netlist.ensures ∙ c.core.ensures) c.sound.ensures in
    let free : IsUnknown i.fault i.events.netlist i.holds.now (path_of (reverse i.levels.items)) c.args.signal =
    subst (λ (s : Sim). IsFree s c.args.signal) (sym c.self.view_is) c.requires in
    let r = i.reach in
    let netlist : c.note-contradicted.new.events.netlist ≡ i.events.netlist = same_netlist i.fault i.holds.now i.labelling c.relabel.new.labelling i.levels.items i.names.items c.note-contradicted.new.names.items i.events c.relabel.new.events c.note-contradicted.new.events
    (vec_capacity i.levels) (vec_capacity i.names) (vec_capacity c.push.new.self) (vec_capacity c.note-contradicted.new.names) c.args.signal c.mark-mark.result c.args.bit
    c.self.invariant.0 sound free c.mark-mark.ensures c.relabel.ensures c.is_contradicted-was.result c.note-contradicted.result
    (c.is_contradicted-was.ensures ∙ ap (λ (vs : List Level). is_contradicted (reverse vs)) c.deref.ensures.value)
    c.push.new.self.items (let e = c.is_err.ensures.negation ∙ ap not c.if-is_err.false in rw e at c.push.ensures.items) c.push.ensures.capacity c.note-contradicted.ensures.room c.note-contradicted.ensures.noted in (
      stored_assigned i.fault i.holds.now i.labelling c.relabel.new.labelling i.levels.items i.names.items c.note-contradicted.new.names.items i.events c.relabel.new.events c.note-contradicted.new.events
          (vec_capacity i.levels) (vec_capacity i.names) (vec_capacity c.push.new.self) (vec_capacity c.note-contradicted.new.names) c.args.signal c.mark-mark.result c.args.bit
          c.self.invariant.0 sound free c.mark-mark.ensures c.relabel.ensures c.is_contradicted-was.result c.note-contradicted.result
          (c.is_contradicted-was.ensures ∙ ap (λ (vs : List Level). is_contradicted (reverse vs)) c.deref.ensures.value)
          c.push.new.self.items (let e = c.is_err.ensures.negation ∙ ap not c.if-is_err.false in rw e at c.push.ensures.items) c.push.ensures.capacity c.note-contradicted.ensures.room c.note-contradicted.ensures.noted,
      subst (λ (n : Netlist). IsReach i.fault n i.holds.now r.points.seen.items r.points.first.items r.points.numbers.items r.known r.signals.items (vec_capacity r.signals)) (sym netlist) c.self.invariant.1,
    )
