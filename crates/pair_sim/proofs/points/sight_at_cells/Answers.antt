use Rattle.std.proofs.Common.{◌≡◌, ℕ, take, ap, sym, ◌∙◌, length, subst, [], arith, List, refl}
use Rattle.std.specs.List.{flat_map}
use Rattle.std.proofs.lemmas.List.{get_or_default, take_all, length-map}
use Rattle.statement.specs.declared.kinds.Kind.TheVariants.{Dff}
use Rattle.statement.specs.declared.lines.Line.TheVariants.{Pin}
use Rattle.statement.specs.Netlists.{Definition, cells}
use Rattle.netlist.specs.Settled.{at}
use Rattle.statement.specs.Values.{pins_of}
use Rattle.netlist.proofs.Observed.{cell_at, the_cell, cell_within, the_pin, first_pin_below, next_more}
use Rattle.tri.specs.declared.labels.Label.{Label}
use Rattle.tri.specs.Labels.{labels, on_line}
use Rattle.pair_sim.specs.inner.Levels.{blank}
use Rattle.pair_sim.specs.inner.Points.{IsSight}
use Rattle.pair_sim.proofs.Sights.{cells_few, length_next}
use Rattle.pair_sim.proofs.points.sight_at_cells.Goals as goal

-- any definition: the lemma asks for a default
no_gate : Definition
no_gate = record { id = 0; kind = Dff; pins = [] }

pub definition-requires-clause-defined : goal.definition-requires-clause-defined
definition-requires-clause-defined c =
    (cell_within c.args.netlist.now c.requires.sound c.cells-cells.result.now c.loop-k.k c.index-cells-k.result no_gate
    c.cells-cells.ensures c.loop-k-test.true c.index-cells-k.is).0

pub definition-requires-clause-within : goal.definition-requires-clause-within
definition-requires-clause-within c =
    (cell_within c.args.netlist.now c.requires.sound c.cells-cells.result.now c.loop-k.k c.index-cells-k.result no_gate
    c.cells-cells.ensures c.loop-k-test.true c.index-cells-k.is).1

pub bounds-pins-0 : goal.bounds-pins-0
bounds-pins-0 c =
    let one = the_pin c.args.netlist.now c.requires.sound c.cells-cells.result.now c.loop-k.k c.index-cells-k.result c.definition.result.now c.pins.result.now
    c.cells-cells.ensures c.loop-k-test.true c.index-cells-k.is c.definition.ensures.member c.definition.ensures.same c.pins.ensures in
    omega arith

pub bounds-values-index : goal.bounds-values-index
bounds-values-index c =
    let n = c.args.netlist.now in
    let d = c.definition.result.now in
    first_pin_below n c.requires.sound d c.pins.result.now c.index-pins-0.result c.index.result (length c.args.values.now) c.definition.ensures.member c.pins.ensures
    (the_pin n c.requires.sound c.cells-cells.result.now c.loop-k.k c.index-cells-k.result d c.pins.result.now c.cells-cells.ensures c.loop-k-test.true c.index-cells-k.is
    c.definition.ensures.member c.definition.ensures.same c.pins.ensures)
    c.index-pins-0.is c.index.ensures c.requires.size

pub offset_bounds-values-index : goal.offset_bounds-values-index
offset_bounds-values-index c =
    let n = c.args.netlist.now in
    let d = c.definition.result.now in
    let l = first_pin_below n c.requires.sound d c.pins.result.now c.index-pins-0.result c.index.result (length c.args.values.now) c.definition.ensures.member c.pins.ensures
    (the_pin n c.requires.sound c.cells-cells.result.now c.loop-k.k c.index-cells-k.result d c.pins.result.now c.cells-cells.ensures c.loop-k-test.true c.index-cells-k.is
    c.definition.ensures.member c.definition.ensures.same c.pins.ensures)
    c.index-pins-0.is c.index.ensures c.requires.size in
    omega arith

pub overflow_cast-k : goal.overflow_cast-k
overflow_cast-k c =
    let few = cells_few c.args.netlist.now c.requires.sound in
    let small = c.requires.sound.sized.small in
    let e = ap length c.cells-cells.ensures in
    let s = length-map (cells c.args.netlist.now) (λ (d : Definition). d.id) in
    let l = c.loop-k-test.true in
    omega arith

pub loop-k-preserved : goal.loop-k-preserved
loop-k-preserved c path =
    let n = c.args.netlist.now in
    let f = c.args.fault.now in
    let d = c.definition.result.now in
    let ids = c.cells-cells.result.now in
    let k = c.loop-k.k in
    let x = c.index-cells-k.result in
    let values = c.args.values.now in
    let a : ℕ → Label = at values blank in
    let one = the_pin n c.requires.sound ids k x d c.pins.result.now c.cells-cells.ensures c.loop-k-test.true c.index-cells-k.is
    c.definition.ensures.member c.definition.ensures.same c.pins.ensures in
    let below = first_pin_below n c.requires.sound d c.pins.result.now c.index-pins-0.result c.index.result (length values) c.definition.ensures.member c.pins.ensures
    one c.index-pins-0.is c.index.ensures c.requires.size in
    let made : c.on_line-label.result ≡ on_line f (Pin x 0) (at values blank c.index.result) =
    c.on_line-label.ensures ∙ ap (on_line f (Pin x 0)) (get_or_default values c.index.result _ blank below) in
    let seen : List Label = flat_map (pins_of (labels f path) a) (take k (cells n)) in
    let inside = (cell_at n c.requires.sound ids k x c.cells-cells.ensures c.loop-k-test.true c.index-cells-k.is).0 in
    subst (λ (ls : List Label). IsSight ls c.see-sight.result)
    (next_more (labels f path) a (cells n) k x d seen c.on_line-label.result (at values blank c.index.result) c.index-pins-0.result c.pins.result.now
    inside (the_cell n c.requires.sound ids k x d c.cells-cells.ensures c.loop-k-test.true c.index-cells-k.is c.definition.ensures.member c.definition.ensures.same)
    (sym c.definition.ensures.same) one c.pins.ensures c.index-pins-0.is made (ap a c.index.ensures) refl)
    (c.see-sight.ensures seen (length_next n c.requires.sound (labels f path) a k (omega arith)) (c.loop-k.invariant path))

pub returns : goal.returns
returns c path =
    let n = c.args.netlist.now in
    let size = ap length c.cells-cells.ensures ∙ length-map (cells n) (λ (e : Definition). e.id) in
    let last = c.loop-k-test.false in
    subst (λ (ls : List Label). IsSight ls c.loop-k.sight)
    (ap (flat_map (pins_of (labels c.args.fault.now path) (at c.args.values.now blank))) (take_all c.loop-k.k (cells n) (omega arith))) (c.loop-k.invariant path)
