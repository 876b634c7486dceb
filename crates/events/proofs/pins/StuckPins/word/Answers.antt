use Rattle.std.proofs.Common.{◌≡◌, ◌<◌, ℕ, List, map, length, get_or, sym, ap, ◌∙◌, subst, zero-add, arith}
use Rattle.std.proofs.lemmas.List.{length-map, get_or-map}
use Rattle.statement.specs.declared.lines.Line.TheVariants.{Pin}
use Rattle.netlist.specs.Settled.{at}
use Rattle.events.specs.Words.{words}
use Rattle.events.proofs.Stuck.{length-on_pins, get_or-on_pins}
use Rattle.events.proofs.pins.StuckPins.word.Goals as goal

pub overflow_cast-place : goal.overflow_cast-place
overflow_cast-place c =
    let p = c.args.self.now in
    let r = c.requires in
    let few = p.few in
    let a = length-on_pins (words p.rule.now.fault) p.id 0 (map (at p.values.now 0) p.pins.now) in
    let b = length-map p.pins.now (at p.values.now 0) in
    omega arith

pub offset_bounds-self-place : goal.offset_bounds-self-place
offset_bounds-self-place c =
    let p = c.args.self.now in
    let r = c.requires in
    let few = p.few in
    let a = length-on_pins (words p.rule.now.fault) p.id 0 (map (at p.values.now 0) p.pins.now) in
    let b = length-map p.pins.now (at p.values.now 0) in
    omega arith

pub bounds-self-place : goal.bounds-self-place
bounds-self-place c =
    let p = c.args.self.now in
    let r = c.requires in
    let a = length-on_pins (words p.rule.now.fault) p.id 0 (map (at p.values.now 0) p.pins.now) in
    let b = length-map p.pins.now (at p.values.now 0) in
    omega arith

pub bounds-self-index : goal.bounds-self-index
bounds-self-index c =
    let p = c.args.self.now in
    let r = c.requires in
    let a = length-on_pins (words p.rule.now.fault) p.id 0 (map (at p.values.now 0) p.pins.now) in
    let b = length-map p.pins.now (at p.values.now 0) in
    subst (λ x. x < length p.values.now) (sym c.index.ensures) (p.below c.args.place c.index-self-place.result (omega arith))

pub offset_bounds-self-index : goal.offset_bounds-self-index
offset_bounds-self-index c =
    let p = c.args.self.now in
    let r = c.requires in
    let a = length-on_pins (words p.rule.now.fault) p.id 0 (map (at p.values.now 0) p.pins.now) in
    let b = length-map p.pins.now (at p.values.now 0) in
    let l : c.index.result < length p.values.now = subst (λ x. x < length p.values.now) (sym c.index.ensures) (p.below c.args.place c.index-self-place.result (omega arith)) in
    omega arith

pub returns : goal.returns
returns c =
    let p = c.args.self.now in
    let rule = words p.rule.now.fault in
    let vs : List ℕ = map (at p.values.now 0) p.pins.now in
    let r = c.requires in
    let a = length-on_pins (words p.rule.now.fault) p.id 0 (map (at p.values.now 0) p.pins.now) in
    let b = length-map p.pins.now (at p.values.now 0) in
    let l : c.args.place < length p.pins.now = omega arith in
    let value : get_or vs c.args.place 0 ≡ get_or p.values.now c.index.result 0 =
    get_or-map (at p.values.now 0) p.pins.now c.args.place c.index-self-place.result 0 l ∙ ap (at p.values.now 0) (sym c.index.ensures) in
    get_or-on_pins rule p.id 0 c.args.place vs 0 0 (omega arith)
    ∙ (ap (λ i. rule.line (Pin p.id i) (get_or vs c.args.place 0)) (zero-add c.args.place)
    ∙ (ap (rule.line (Pin p.id c.args.place)) value ∙ sym c.line.ensures))
