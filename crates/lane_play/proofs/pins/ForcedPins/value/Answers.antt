use Rattle.std.proofs.Common.{◌≡◌, ◌<◌, List, map, length, get_or, sym, ap, ◌∙◌, subst, zero-add, arith}
use Rattle.std.proofs.lemmas.List.{length-map, get_or-map, get_or_default}
use Rattle.statement.specs.declared.lines.Line.TheVariants.{Pin}
use Rattle.netlist.specs.Settled.{at}
use Rattle.events.proofs.Stuck.{get_or-on_pins}
use Rattle.lane_play.specs.declared.packed.Lanes.{Lanes}
use Rattle.lane_play.specs.inner.Lanes.{lanes_rule, unknown}
use Rattle.lane_play.proofs.Stuckness.{place_read}
use Rattle.lane_play.proofs.pins.ForcedPins.value.Goals as goal

pub overflow_cast-place : goal.overflow_cast-place
overflow_cast-place c =
    let p = c.args.self.now in
    let few = p.few in
    let l = place_read (lanes_rule p.faults.now) p.id p.values.now p.pins.now c.args.place c.requires in
    omega arith

pub offset_bounds-self-place : goal.offset_bounds-self-place
offset_bounds-self-place c =
    let p = c.args.self.now in
    let few = p.few in
    let l = place_read (lanes_rule p.faults.now) p.id p.values.now p.pins.now c.args.place c.requires in
    omega arith

pub bounds-self-place : goal.bounds-self-place
bounds-self-place c =
    let p = c.args.self.now in
    place_read (lanes_rule p.faults.now) p.id p.values.now p.pins.now c.args.place c.requires

pub bounds-self-index : goal.bounds-self-index
bounds-self-index c =
    let p = c.args.self.now in
    subst (λ x. x < length p.values.now) (sym c.index.ensures)
    (p.below c.args.place c.index-self-place.result (place_read (lanes_rule p.faults.now) p.id p.values.now p.pins.now c.args.place c.requires))

pub offset_bounds-self-index : goal.offset_bounds-self-index
offset_bounds-self-index c =
    let p = c.args.self.now in
    let l = place_read (lanes_rule p.faults.now) p.id p.values.now p.pins.now c.args.place c.requires in
    let inside : c.index.result < length p.values.now = subst (λ x. x < length p.values.now) (sym c.index.ensures) (p.below c.args.place c.index-self-place.result l) in
    omega arith

pub returns : goal.returns
returns c =
    let p = c.args.self.now in
    let rule = lanes_rule p.faults.now in
    let vs : List Lanes = map (at p.values.now unknown) p.pins.now in
    let l = place_read rule p.id p.values.now p.pins.now c.args.place c.requires in
    let b = length-map p.pins.now (at p.values.now unknown) in
    let inside : c.index.result < length p.values.now = subst (λ x. x < length p.values.now) (sym c.index.ensures) (p.below c.args.place c.index-self-place.result l) in
    let value : get_or vs c.args.place unknown ≡ get_or p.values.now c.index.result unknown =
    get_or-map (at p.values.now unknown) p.pins.now c.args.place c.index-self-place.result unknown l
    ∙ ap (at p.values.now unknown) (sym c.index.ensures) in
    c.forced.ensures
    ∙ (ap (rule.line (Pin p.id c.args.place)) (get_or_default p.values.now c.index.result _ unknown inside ∙ sym value)
    ∙ (ap (λ i. rule.line (Pin p.id i) (get_or vs c.args.place unknown)) (sym (zero-add c.args.place))
    ∙ sym (get_or-on_pins rule p.id 0 c.args.place vs c.forced.result unknown (omega arith))))
