use Rattle.std.proofs.Common.{[], ap, sym, ◌∙◌, length, arith}
use Rattle.std.specs.List.{flat_map}
use Rattle.std.proofs.lemmas.List.{get_or_default, take_all, length-map}
use Rattle.statement.specs.declared.kinds.Kind.TheVariants.{Dff}
use Rattle.statement.specs.Netlists.{Definition as Equation, cells}
use Rattle.netlist.specs.Settled.{at}
use Rattle.statement.specs.Values.{pins_of}
use Rattle.netlist.proofs.Observed.{cell_at, the_cell, cell_within, the_pin, first_pin_below, next_more}
use Rattle.netlist.proofs.observing.next_into.Goals as goal

pub loop-cell-init : goal.loop-cell-init
loop-cell-init g c d = c.clear.ensures.items

-- any definition: the lemma asks for a default
no_gate : Equation
no_gate = record { id = 0; kind = Dff; pins = [] }

pub definition-requires-clause-defined : goal.definition-requires-clause-defined
definition-requires-clause-defined g c =
    (cell_within c.args.netlist.now c.requires.sound c.cells-cell-items.result.now c.loop-cell.cell-index c.cell-item.result no_gate
    c.cells-cell-items.ensures c.loop-cell-test.true c.cell-item.is).0

pub definition-requires-clause-within : goal.definition-requires-clause-within
definition-requires-clause-within g c =
    (cell_within c.args.netlist.now c.requires.sound c.cells-cell-items.result.now c.loop-cell.cell-index c.cell-item.result no_gate
    c.cells-cell-items.ensures c.loop-cell-test.true c.cell-item.is).1

pub bounds-pins-0 : goal.bounds-pins-0
bounds-pins-0 g c =
    let one = the_pin c.args.netlist.now c.requires.sound c.cells-cell-items.result.now c.loop-cell.cell-index c.cell-item.result c.definition.result.now c.pins.result.now
    c.cells-cell-items.ensures c.loop-cell-test.true c.cell-item.is c.definition.ensures.member c.definition.ensures.same c.pins.ensures in
    omega arith

pub bounds-values-index : goal.bounds-values-index
bounds-values-index g c =
    let n = c.args.netlist.now in
    let d = c.definition.result.now in
    first_pin_below n c.requires.sound d c.pins.result.now c.index-pins-0.result c.index.result (length c.args.values.now) c.definition.ensures.member c.pins.ensures
    (the_pin n c.requires.sound c.cells-cell-items.result.now c.loop-cell.cell-index c.cell-item.result d c.pins.result.now c.cells-cell-items.ensures c.loop-cell-test.true c.cell-item.is
    c.definition.ensures.member c.definition.ensures.same c.pins.ensures)
    c.index-pins-0.is c.index.ensures c.requires.size

pub offset_bounds-values-index : goal.offset_bounds-values-index
offset_bounds-values-index g c =
    let n = c.args.netlist.now in
    let d = c.definition.result.now in
    let l = first_pin_below n c.requires.sound d c.pins.result.now c.index-pins-0.result c.index.result (length c.args.values.now) c.definition.ensures.member c.pins.ensures
    (the_pin n c.requires.sound c.cells-cell-items.result.now c.loop-cell.cell-index c.cell-item.result d c.pins.result.now c.cells-cell-items.ensures c.loop-cell-test.true c.cell-item.is
    c.definition.ensures.member c.definition.ensures.same c.pins.ensures)
    c.index-pins-0.is c.index.ensures c.requires.size in
    omega arith

pub loop-cell-preserved : goal.loop-cell-preserved
loop-cell-preserved g c e =
    let n = c.args.netlist.now in
    let d = c.definition.result.now in
    let ids = c.cells-cell-items.result.now in
    let k = c.loop-cell.cell-index in
    let x = c.cell-item.result in
    let values = c.args.values.now in
    let one = the_pin n c.requires.sound ids k x d c.pins.result.now c.cells-cell-items.ensures c.loop-cell-test.true c.cell-item.is
    c.definition.ensures.member c.definition.ensures.same c.pins.ensures in
    let below = first_pin_below n c.requires.sound d c.pins.result.now c.index-pins-0.result c.index.result (length values) c.definition.ensures.member c.pins.ensures
    one c.index-pins-0.is c.index.ensures c.requires.size in
    c.in_ok-push.ensures.items
    ∙ next_more (g.L.Logic.rule c.args.logic.now) (at values e) (cells n) k x d c.loop-cell.found.items c.line.result c.index-values-index.result c.index-pins-0.result c.pins.result.now
    (cell_at n c.requires.sound ids k x c.cells-cell-items.ensures c.loop-cell-test.true c.cell-item.is).0
    (the_cell n c.requires.sound ids k x d c.cells-cell-items.ensures c.loop-cell-test.true c.cell-item.is c.definition.ensures.member c.definition.ensures.same)
    (sym c.definition.ensures.same) one c.pins.ensures c.index-pins-0.is c.line.ensures
    (c.index-values-index.is ∙ (get_or_default values c.index.result c.index-values-index.result e below ∙ ap (at values e) c.index.ensures))
    (c.loop-cell.invariant e)

pub returns : goal.returns
returns g c d =
    let n = c.args.netlist.now in
    let size = ap length c.cells-cell-items.ensures ∙ length-map (cells n) (λ (e : Equation). e.id) in
    let last = c.loop-cell-test.false in
    c.loop-cell.invariant d ∙ ap (flat_map (pins_of (g.L.Logic.rule c.args.logic.now) (at c.args.values.now d))) (take_all c.loop-cell.cell-index (cells n) (omega arith))
