use Rattle.std.proofs.Common.{[], arith}
use Rattle.statement.specs.declared.kinds.Kind.TheVariants.{Dff}
use Rattle.statement.specs.Netlists.{Definition as Equation, cells}
use Rattle.netlist.proofs.Observed.{cell_at, the_cell, cell_within, the_pin}
use Rattle.observed_points.proofs.PinLists.{pins_more}
use Rattle.observed_points.proofs.points.push_pins.Goals as goal

-- any definition: the lemma asks for a default
no_gate : Equation
no_gate = record { id = 0; kind = Dff; pins = [] }

pub definition-requires-clause-defined : goal.definition-requires-clause-defined
definition-requires-clause-defined c =
    (cell_within c.args.netlist.now c.requires c.cells-cell-items.result.now c.loop-cell.cell-index c.cell-item.result no_gate
    c.cells-cell-items.ensures c.loop-cell-test.true c.cell-item.is).0

pub definition-requires-clause-within : goal.definition-requires-clause-within
definition-requires-clause-within c =
    (cell_within c.args.netlist.now c.requires c.cells-cell-items.result.now c.loop-cell.cell-index c.cell-item.result no_gate
    c.cells-cell-items.ensures c.loop-cell-test.true c.cell-item.is).1

pub bounds-pins-0 : goal.bounds-pins-0
bounds-pins-0 c =
    let one = the_pin c.args.netlist.now c.requires c.cells-cell-items.result.now c.loop-cell.cell-index c.cell-item.result c.definition.result.now c.pins.result.now
    c.cells-cell-items.ensures c.loop-cell-test.true c.cell-item.is c.definition.ensures.member c.definition.ensures.same c.pins.ensures in
    omega arith

pub loop-cell-preserved : goal.loop-cell-preserved
loop-cell-preserved c =
    let n = c.args.netlist.now in
    let d = c.definition.result.now in
    let ids = c.cells-cell-items.result.now in
    let k = c.loop-cell.cell-index in
    let x = c.cell-item.result in
    let one = the_pin n c.requires ids k x d c.pins.result.now c.cells-cell-items.ensures c.loop-cell-test.true c.cell-item.is
    c.definition.ensures.member c.definition.ensures.same c.pins.ensures in
    pins_more (cells n) k d c.args.seen.now.items c.loop-cell.seen.items c.push.new.self.items c.pins.result.now c.index-pins-0.result
    (cell_at n c.requires ids k x c.cells-cell-items.ensures c.loop-cell-test.true c.cell-item.is).0
    (the_cell n c.requires ids k x d c.cells-cell-items.ensures c.loop-cell-test.true c.cell-item.is c.definition.ensures.member c.definition.ensures.same)
    (omega arith) c.pins.ensures c.index-pins-0.is c.loop-cell.invariant c.in_ok-push.ensures.items
