use Rattle.std.proofs.Common.{◌+◌, ◌-◌, ◌≤◌, ◌∙◌, sym, subst, length, vec_capacity, arith}
use Rattle.statement.specs.declared.lines.Line.TheVariants.{Stem}
use Rattle.statement.specs.Netlists.{Netlist, signals}
use Rattle.events.specs.Standing.{Standing, standing, Moves, SettlesAnew}
use Rattle.events.proofs.Running.{put_then_settled}
use Rattle.events.proofs.Standing.{still_ready, order_few, settles_anew, moved}
use Rattle.events.proofs.evaluator.Events.change.Goals as goal

pub invariant_of-self : goal.invariant_of-self
invariant_of-self g c =
    let i = c.self.inside in
    let h = put_then_settled (g.L.Logic.rule c.args.rule.now) c.netlist-netlist.result.now i.tables.places.items c.args.id ((g.L.Logic.rule c.args.rule.now).line (Stem c.args.id) c.args.driven)
    i.values.items c.touch.new.values.items c.resettle.new.values.items i.agenda c.touch.new.agenda i.trail.items c.touch.new.trail.items c.resettle.new.trail.items
    c.touch.ensures.puts c.resettle.ensures.resettles in
    still_ready i.core.now i.tables.order.items i.tables.places.items i.tables.fans i.values.items c.resettle.new.values.items i.agenda c.resettle.new.agenda i.trail.items c.resettle.new.trail.items
    (vec_capacity i.trail) (vec_capacity c.resettle.new.trail) c.self.invariant _ h c.resettle.ensures.clear (c.resettle.ensures.marks ∙ c.touch.ensures.puts.size) (c.resettle.ensures.room ∙ c.touch.ensures.room)

pub returns-clause-moves : goal.returns-clause-moves
returns-clause-moves g c =
    let i = c.self.inside in
    let h = put_then_settled (g.L.Logic.rule c.args.rule.now) c.netlist-netlist.result.now i.tables.places.items c.args.id ((g.L.Logic.rule c.args.rule.now).line (Stem c.args.id) c.args.driven)
    i.values.items c.touch.new.values.items c.resettle.new.values.items i.agenda c.touch.new.agenda i.trail.items c.touch.new.trail.items c.resettle.new.trail.items
    c.touch.ensures.puts c.resettle.ensures.resettles in
    subst (λ (s : Standing g.row.V.Denot). Moves s (standing i.core.now c.resettle.new.values.items c.resettle.new.trail.items (vec_capacity c.resettle.new.trail))) c.self.view_is
    (moved i.core.now i.values.items c.resettle.new.values.items i.trail.items c.resettle.new.trail.items _ (vec_capacity i.trail) (vec_capacity c.resettle.new.trail)
    (c.resettle.ensures.room ∙ c.touch.ensures.room) h.0 h.1)

pub returns-clause-settles : goal.returns-clause-settles
returns-clause-settles g c =
    let i = c.self.inside in
    let t = c.self.inside.tables in
    let n = c.netlist-netlist.result.now in
    let rule = g.L.Logic.rule c.args.rule.now in
    let h = settles_anew rule n t.places.items c.args.id c.args.driven i.values.items c.touch.new.values.items c.resettle.new.values.items
    i.agenda c.touch.new.agenda i.trail.items c.touch.new.trail.items c.resettle.new.trail.items c.touch.ensures.puts c.resettle.ensures.resettles in
    subst (λ (s : Standing g.row.V.Denot). SettlesAnew rule s.netlist c.args.id c.args.driven s.values c.resettle.new.values.items) c.self.view_is
    (subst (λ (m : Netlist). SettlesAnew rule m c.args.id c.args.driven i.values.items c.resettle.new.values.items) c.netlist-netlist.ensures h)

pub resettle-requires-clause-room : goal.resettle-requires-clause-room
resettle-requires-clause-room g c =
    let n = c.self.inside.core.now in
    let few = order_few c.self.inside.core.now c.netlist-netlist.result.now c.self.inside.tables.order.items c.self.inside.tables.places.items c.self.inside.tables.fans c.netlist-netlist.ensures c.sound.ensures c.self.invariant.tables in
    let room : length c.self.inside.trail.items ≤ vec_capacity c.self.inside.trail - (length (signals n) + 1) =
    subst (λ (s : Standing g.row.V.Denot). length s.trail ≤ s.room) (sym c.self.view_is) c.requires.room in
    let held = c.self.invariant.room in
    let pushed = c.touch.ensures.pushed in
    let same = c.touch.ensures.room in
    omega arith
