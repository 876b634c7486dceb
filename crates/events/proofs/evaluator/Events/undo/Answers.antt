use Rattle.std.proofs.Common.{vec_capacity}
use Rattle.events.proofs.Standing.{undone_ready}
use Rattle.events.proofs.evaluator.Events.undo.Goals as goal

pub invariant_of-self : goal.invariant_of-self
invariant_of-self g c =
    let i = c.self.inside in
    let t = c.self.inside.tables in
    undone_ready i.core.now t.order.items t.places.items t.fans i.agenda i.values.items c.undo.new.values.items i.trail.items c.undo.new.trail.items
    (vec_capacity i.trail) (vec_capacity c.undo.new.trail) c.args.mark c.self.invariant c.undo.ensures.values c.undo.ensures.trail c.undo.ensures.room
