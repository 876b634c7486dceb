use Rattle.std.proofs.Common.{vec_capacity}
use Rattle.events.proofs.Standing.{forgotten_ready}
use Rattle.events.proofs.evaluator.Events.forget_from.Goals as goal

pub invariant_of-self : goal.invariant_of-self
invariant_of-self g c =
    let i = c.self.inside in
    let t = c.self.inside.tables in
    forgotten_ready i.core.now t.order.items t.places.items t.fans i.agenda i.values.items i.trail.items c.truncate.new.self.items
    (vec_capacity i.trail) (vec_capacity c.truncate.new.self) c.args.mark c.self.invariant c.truncate.ensures.items c.truncate.ensures.capacity
