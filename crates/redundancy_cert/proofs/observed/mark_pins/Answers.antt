use Rattle.std.proofs.Common.{◌+◌, ◌<◌, ◌≤◌, [], List, length, map, set, take, true, refl, ap, sym, ◌∙◌, subst, arith}
use Rattle.std.specs.List.{Contains, flat_map}
use Rattle.std.proofs.lemmas.List.{take_all, length-map}
use Rattle.statement.specs.declared.kinds.Kind.TheVariants.{Dff}
use Rattle.netlist.specs.Conditions.{IsSound}
use Rattle.statement.specs.Netlists.{Definition, Netlist, cells, signals}
use Rattle.netlist.proofs.Observed.{cell_at, the_cell, cell_within, the_pin, first_pin_below}
use Rattle.redundancy_cert.specs.inner.Passing.{Marks}
use Rattle.redundancy_cert.proofs.MarkLemmas.{marks_more, pins_more}
use Rattle.redundancy_cert.proofs.observed.mark_pins.Goals as goal

-- any definition: the lemma asks for a default
no_gate : Definition
no_gate = record { id = 0; kind = Dff; pins = [] }

pub definition-requires-clause-defined : goal.definition-requires-clause-defined
definition-requires-clause-defined c =
    subst (λ (m : Netlist). length m.inputs ≤ c.cell-item.result) (sym c.netlist-in-loop-cell.ensures)
    (cell_within c.args.core.now (subst IsSound c.netlist.ensures c.sound.ensures) c.cells-cell-items.result.now c.loop-cell.cell-index c.cell-item.result no_gate
    (c.cells-cell-items.ensures ∙ ap (λ (m : Netlist). map (λ (d : Definition). d.id) (cells m)) c.netlist-2.ensures) c.loop-cell-test.true c.cell-item.is).0

pub definition-requires-clause-within : goal.definition-requires-clause-within
definition-requires-clause-within c =
    subst (λ (m : Netlist). c.cell-item.result < length (signals m)) (sym c.netlist-in-loop-cell.ensures)
    (cell_within c.args.core.now (subst IsSound c.netlist.ensures c.sound.ensures) c.cells-cell-items.result.now c.loop-cell.cell-index c.cell-item.result no_gate
    (c.cells-cell-items.ensures ∙ ap (λ (m : Netlist). map (λ (d : Definition). d.id) (cells m)) c.netlist-2.ensures) c.loop-cell-test.true c.cell-item.is).1

pub bounds-pins-0 : goal.bounds-pins-0
bounds-pins-0 c =
    let n = c.args.core.now in
    let d = c.definition.result.now in
    let one = the_pin n (subst IsSound c.netlist.ensures c.sound.ensures) c.cells-cell-items.result.now c.loop-cell.cell-index c.cell-item.result d c.pins.result.now
    (c.cells-cell-items.ensures ∙ ap (λ (m : Netlist). map (λ (d : Definition). d.id) (cells m)) c.netlist-2.ensures) c.loop-cell-test.true c.cell-item.is
    (subst (λ (m : Netlist). Contains m.definitions d) c.netlist-in-loop-cell.ensures c.definition.ensures.member) c.definition.ensures.same c.pins.ensures in
    omega arith

pub index_mut-requires : goal.index_mut-requires
index_mut-requires c =
    let n = c.args.core.now in
    let d = c.definition.result.now in
    let sound : IsSound n = subst IsSound c.netlist.ensures c.sound.ensures in
    let member : Contains n.definitions d = subst (λ (m : Netlist). Contains m.definitions d) c.netlist-in-loop-cell.ensures c.definition.ensures.member in
    let below : c.index.result < length c.loop-cell.marks.items =
    first_pin_below n sound d c.pins.result.now c.index-pins-0.result c.index.result (length c.loop-cell.marks.items) member c.pins.ensures
    (the_pin n sound c.cells-cell-items.result.now c.loop-cell.cell-index c.cell-item.result d c.pins.result.now
    (c.cells-cell-items.ensures ∙ ap (λ (m : Netlist). map (λ (d : Definition). d.id) (cells m)) c.netlist-2.ensures) c.loop-cell-test.true c.cell-item.is
    member c.definition.ensures.same c.pins.ensures)
    c.index-pins-0.is c.index.ensures (c.loop-cell.invariant.size ∙ c.requires) in
    omega arith

pub loop-cell-preserved : goal.loop-cell-preserved
loop-cell-preserved c =
    let n = c.args.core.now in
    let d = c.definition.result.now in
    let k = c.loop-cell.cell-index in
    let ids = c.cells-cell-items.result.now in
    let sound : IsSound n = subst IsSound c.netlist.ensures c.sound.ensures in
    let member : Contains n.definitions d = subst (λ (m : Netlist). Contains m.definitions d) c.netlist-in-loop-cell.ensures c.definition.ensures.member in
    let are = c.cells-cell-items.ensures ∙ ap (λ (m : Netlist). map (λ (d : Definition). d.id) (cells m)) c.netlist-2.ensures in
    let one = the_pin n sound ids k c.cell-item.result d c.pins.result.now are c.loop-cell-test.true c.cell-item.is member c.definition.ensures.same c.pins.ensures in
    marks_more (flat_map (λ (e : Definition). e.pins) (take k (cells n))) (flat_map (λ (e : Definition). e.pins) (take (k + 1) (cells n))) c.index.result
    c.args.marks.now.items c.loop-cell.marks.items (set c.loop-cell.marks.items c.index.result true) (
    first_pin_below n sound d c.pins.result.now c.index-pins-0.result c.index.result (length c.loop-cell.marks.items) member c.pins.ensures
    (the_pin n sound c.cells-cell-items.result.now c.loop-cell.cell-index c.cell-item.result d c.pins.result.now
    (c.cells-cell-items.ensures ∙ ap (λ (m : Netlist). map (λ (d : Definition). d.id) (cells m)) c.netlist-2.ensures) c.loop-cell-test.true c.cell-item.is
    member c.definition.ensures.same c.pins.ensures)
    c.index-pins-0.is c.index.ensures (c.loop-cell.invariant.size ∙ c.requires))
    (pins_more (cells n) k d c.pins.result.now c.index-pins-0.result c.index.result
    (cell_at n sound ids k c.cell-item.result are c.loop-cell-test.true c.cell-item.is).0
    (the_cell n sound ids k c.cell-item.result d are c.loop-cell-test.true c.cell-item.is member c.definition.ensures.same)
    c.pins.ensures one c.index-pins-0.is c.index.ensures)
    refl c.loop-cell.invariant

pub returns : goal.returns
returns c =
    let n = c.args.core.now in
    let are = c.cells-cell-items.ensures ∙ ap (λ (m : Netlist). map (λ (d : Definition). d.id) (cells m)) c.netlist-2.ensures in
    let size = ap length are ∙ length-map (cells n) (λ (e : Definition). e.id) in
    let last = c.loop-cell-test.false in
    subst (λ (ds : List Definition). Marks (flat_map (λ (e : Definition). e.pins) ds) c.args.marks.now.items c.loop-cell.marks.items) (take_all c.loop-cell.cell-index (cells n) (omega arith))
    c.loop-cell.invariant
