use Rattle.std.proofs.Common.{◌≡◌, ap, sym, subst, refl, ◌∙◌, length, arith}
use Rattle.statement.specs.Netlists.{Netlist, cells, signals}
use Rattle.netlist.proofs.Settling.{cells_below, cells_distinct}
use Rattle.events.specs.Standing.{Standing, SettlesFor}
use Rattle.events.specs.inner.Placing.{AreTables}
use Rattle.events.proofs.DrivenValues.{drives}
use Rattle.events.proofs.Standing.{order_few}
use Rattle.events.proofs.evaluator.Events.drive.Goals as goal

pub drive_onto-requires-2-clause-within : goal.drive_onto-requires-2-clause-within
drive_onto-requires-2-clause-within g c = cells_below c.netlist-netlist.result.now c.sound.ensures.formed.numbered c.cells.result.now _ c.cells.ensures refl

pub drive_onto-requires-2-clause-distinct : goal.drive_onto-requires-2-clause-distinct
drive_onto-requires-2-clause-distinct g c = cells_distinct c.netlist-netlist.result.now c.sound.ensures.formed.numbered c.cells.result.now c.cells.ensures

pub returns-clause-settles : goal.returns-clause-settles
returns-clause-settles g c =
    let i = c.self.inside in
    let t = c.self.inside.tables in
    let n = c.netlist-netlist.result.now in
    let rule = g.L.Logic.rule c.args.rule.now in
    let same : n ≡ c.args.self.now.netlist = c.netlist-netlist.ensures ∙ ap (λ (s : Standing g.row.V.Denot). s.netlist) c.self.view_is in
    let tables = subst (λ (m : Netlist). AreTables m t.order.items t.places.items t.fans) (sym c.netlist-netlist.ensures) c.self.invariant.tables in
    let size = c.self.invariant.size ∙ ap (λ (m : Netlist). length (signals m)) (sym c.netlist-netlist.ensures) in
    let h = drives rule n c.sound.ensures t.order.items t.places.items t.fans tables
    c.inputs.result.now c.cells.result.now c.args.inputs.now c.args.state.now i.values.items c.drive_onto.new.values.items c.drive_onto-2.new.values.items
    i.agenda c.drive_onto.new.agenda c.drive_onto-2.new.agenda c.self.invariant.marks_size size c.inputs.ensures c.cells.ensures
    (c.requires.inputs ∙ ap (λ (m : Netlist). length m.inputs) (sym same)) (c.requires.state ∙ ap (λ (m : Netlist). length (cells m)) (sym same))
    c.drive_onto.ensures c.drive_onto-2.ensures c.resettle.new.values.items c.clear.new.self.items c.resettle.new.trail.items c.resettle.ensures.resettles in
    subst (λ (m : Netlist). SettlesFor rule m c.args.inputs.now c.args.state.now c.args.self.now.values c.resettle.new.values.items) same
    (subst (λ (s : Standing g.row.V.Denot). SettlesFor rule n c.args.inputs.now c.args.state.now s.values c.resettle.new.values.items) c.self.view_is h)

pub resettle-requires-clause-room : goal.resettle-requires-clause-room
resettle-requires-clause-room g c =
    let few = order_few c.self.inside.core.now c.netlist-netlist.result.now c.self.inside.tables.order.items c.self.inside.tables.places.items c.self.inside.tables.fans c.netlist-netlist.ensures c.sound.ensures c.self.invariant.tables in
    let held = c.self.invariant.room in
    let none = ap length c.clear.ensures.items in
    let same = c.clear.ensures.capacity in
    omega arith
