use Rattle.std.proofs.Common.{◌≡◌, ◌<◌, length, get_or, set, refl, sym, ◌∙◌, ap, subst, arith, bit_and}
use Rattle.statement.specs.Netlists.{signals}
use Rattle.events.specs.Words.{bit_of}
use Rattle.regions.specs.Paths.{AreOpen, IsReadOnlyAt}
use Rattle.regions.specs.Sensitized.{is_noncontrolling}
use Rattle.regions.proofs.ControlWords.{passes_are}
use Rattle.regions.proofs.PathWords.{pin_low, reader_low, opened_by, read_here}
use Rattle.regions.proofs.paths.open_pin.Goals as goal

pub reads_alone-requires : goal.reads_alone-requires
reads_alone-requires c =
    let is = c.index-pins-place.is ∙ ap (λ ps. get_or ps c.args.place c.index-pins-place.result) c.pins-pins.ensures in
    subst (λ m. c.index-pins-place.result < m) c.requires.size
    (pin_low c.args.netlist.now c.sound.ensures c.args.values.now c.requires.size c.args.definition.now c.requires.member c.args.place c.index-pins-place.result c.requires.place is)

pub offset_bounds-values-index : goal.offset_bounds-values-index
offset_bounds-values-index c =
    let is = c.index-pins-place.is ∙ ap (λ ps. get_or ps c.args.place c.index-pins-place.result) c.pins-pins.ensures in
    let l = pin_low c.args.netlist.now c.sound.ensures c.args.values.now c.requires.size c.args.definition.now c.requires.member c.args.place c.index-pins-place.result c.requires.place is in
    let e = c.index.ensures in
    let small = c.sound.ensures.sized.small in
    let size : length c.args.values.now ≡ length (signals c.args.netlist.now) = c.requires.size in
    omega arith

pub bounds-values-index : goal.bounds-values-index
bounds-values-index c =
    let is = c.index-pins-place.is ∙ ap (λ ps. get_or ps c.args.place c.index-pins-place.result) c.pins-pins.ensures in
    subst (λ x. x < length c.args.values.now) (sym c.index.ensures)
    (pin_low c.args.netlist.now c.sound.ensures c.args.values.now c.requires.size c.args.definition.now c.requires.member c.args.place c.index-pins-place.result c.requires.place is)

pub index-requires-3 : goal.index-requires-3
index-requires-3 c =
    let r : IsReadOnlyAt c.args.netlist.now c.index-pins-place.result c.id-gate.result c.args.place = c.reads_alone.ensures c.if-not-reads_alone.false in
    let low = (reader_low c.args.netlist.now c.sound.ensures c.index-pins-place.result c.id-gate.result c.args.place r).1 in
    let e = c.index-2.ensures in
    let size = c.requires.open.opens_size in
    let b = c.args.opens.now.ok.0 in
    omega arith

pub index_mut-requires : goal.index_mut-requires
index_mut-requires c =
    let is = c.index-pins-place.is ∙ ap (λ ps. get_or ps c.args.place c.index-pins-place.result) c.pins-pins.ensures in
    let l = pin_low c.args.netlist.now c.sound.ensures c.args.values.now c.requires.size c.args.definition.now c.requires.member c.args.place c.index-pins-place.result c.requires.place is in
    let e = c.index-4.ensures in
    let size = c.requires.open.opens_size in
    let same : length c.args.values.now ≡ length (signals c.args.netlist.now) = c.requires.size in
    let b = c.args.opens.now.ok.0 in
    omega arith

pub index-requires-6 : goal.index-requires-6
index-requires-6 c =
    let r : IsReadOnlyAt c.args.netlist.now c.index-pins-place.result c.id-gate.result c.args.place = c.reads_alone.ensures c.if-not-reads_alone.false in
    let low = (reader_low c.args.netlist.now c.sound.ensures c.index-pins-place.result c.id-gate.result c.args.place r).1 in
    let e = c.index-5.ensures in
    let size = c.requires.open.heads_size in
    let b = c.args.heads.now.ok.0 in
    omega arith

pub index_mut-requires-2 : goal.index_mut-requires-2
index_mut-requires-2 c =
    let is = c.index-pins-place.is ∙ ap (λ ps. get_or ps c.args.place c.index-pins-place.result) c.pins-pins.ensures in
    let l = pin_low c.args.netlist.now c.sound.ensures c.args.values.now c.requires.size c.args.definition.now c.requires.member c.args.place c.index-pins-place.result c.requires.place is in
    let e = c.index-7.ensures in
    let size = c.requires.open.heads_size in
    let same : length c.args.values.now ≡ length (signals c.args.netlist.now) = c.requires.size in
    let b = c.args.heads.now.ok.0 in
    omega arith

pub returns : goal.returns
returns c =
    let n = c.args.netlist.now in
    let values = c.args.values.now in
    let d = c.args.definition.now in
    let id = c.index-pins-place.result in
    let gate = c.id-gate.result in
    let is = c.index-pins-place.is ∙ ap (λ ps. get_or ps c.args.place c.index-pins-place.result) c.pins-pins.ensures in
    let low = subst (λ m. c.index-pins-place.result < m) c.requires.size
    (pin_low c.args.netlist.now c.sound.ensures c.args.values.now c.requires.size c.args.definition.now c.requires.member c.args.place c.index-pins-place.result c.requires.place is) in
    let r : IsReadOnlyAt c.args.netlist.now c.index-pins-place.result c.id-gate.result c.args.place = c.reads_alone.ensures c.if-not-reads_alone.false in
    let gate_within = (reader_low c.args.netlist.now c.sound.ensures c.index-pins-place.result c.id-gate.result c.args.place r).1 in
    let word_is = read_here c.args.opens.now.items c.index-2.result c.id-gate.result c.index-3.result.now c.index-2.ensures (subst (λ m. c.id-gate.result < m) (sym c.requires.open.opens_size) gate_within) c.index-3.ensures in
    let head_is = read_here c.args.heads.now.items c.index-5.result c.id-gate.result c.index-6.result.now c.index-5.ensures (subst (λ m. c.id-gate.result < m) (sym c.requires.open.heads_size) gate_within) c.index-6.ensures in
    let from = read_here d.pins c.args.place c.args.place id refl c.requires.place is in
    let value = get_or values c.index.result 0 in
    subst (λ i. AreOpen c.args.netlist.now c.args.values.now (set c.args.heads.now.items i c.index-6.result.now) (set c.args.opens.now.items c.index-4.result (bit_and c.index-3.result.now c.passing-passes.result))) (sym c.index-7.ensures)
    (subst (λ i. AreOpen c.args.netlist.now c.args.values.now (set c.args.heads.now.items c.index-pins-place.result c.index-6.result.now) (set c.args.opens.now.items i (bit_and c.index-3.result.now c.passing-passes.result))) (sym c.index-4.ensures)
    (opened_by n c.sound.ensures values c.args.heads.now.items c.args.opens.now.items id gate c.args.place c.index-3.result.now c.passing-passes.result d c.requires.open low r c.requires.member
    (sym c.id-gate.ensures) word_is
    (λ j m. ap (bit_of j) c.passing-passes.ensures
    ∙ passes_are d.kind d.pins values c.args.place c.args.controlling.one c.args.controlling.two c.noncontrolling-side.result value c.requires.place (ap (λ i. get_or c.args.values.now i 0) (c.index.ensures ∙ from))
    (λ i l. c.noncontrolling-side.ensures i l ∙ ap (λ k. is_noncontrolling k (bit_of i (get_or c.args.values.now c.index.result 0))) c.kind.ensures) c.requires.controlled j m)
    c.index-6.result.now head_is))
