use Rattle.std.proofs.Common.{◌≡◌, ℕ, map, take, ap, sym, ◌∙◌, length, subst, ◌++◌, ◌∷◌, [], arith, List, None, refl}
use Rattle.std.proofs.lemmas.List.{get_or_default, take_all, length-take-le, length-map}
use Rattle.statement.specs.declared.lines.Line.TheVariants.{Out}
use Rattle.netlist.specs.Settled.{at}
use Rattle.netlist.proofs.Observed.{output_below, output_more}
use Rattle.tri.specs.declared.labels.Label.{Label}
use Rattle.tri.specs.Labels.{labels, on_line}
use Rattle.pair_sim.specs.inner.Levels.{blank}
use Rattle.pair_sim.specs.inner.Points.{IsSight}
use Rattle.pair_sim.proofs.Sights.{outputs_few}
use Rattle.pair_sim.proofs.points.sight_at_outputs.Goals as goal

pub bounds-values-index : goal.bounds-values-index
bounds-values-index c =
    output_below c.args.netlist.now c.requires.sound c.outputs-outputs.result.now c.loop-k.k c.index-outputs-k.result c.index.result (length c.args.values.now)
    c.outputs-outputs.ensures c.loop-k-test.true c.index-outputs-k.is c.index.ensures c.requires.size

pub offset_bounds-values-index : goal.offset_bounds-values-index
offset_bounds-values-index c =
    let l = output_below c.args.netlist.now c.requires.sound c.outputs-outputs.result.now c.loop-k.k c.index-outputs-k.result c.index.result (length c.args.values.now)
    c.outputs-outputs.ensures c.loop-k-test.true c.index-outputs-k.is c.index.ensures c.requires.size in omega arith

pub overflow_cast-k : goal.overflow_cast-k
overflow_cast-k c =
    let few = outputs_few c.args.netlist.now c.requires.sound in
    let small = c.requires.sound.sized.small in
    let e = ap length c.outputs-outputs.ensures in
    let l = c.loop-k-test.true in
    omega arith

pub loop-k-preserved : goal.loop-k-preserved
loop-k-preserved c =
    let n = c.args.netlist.now in
    let f = c.args.fault.now in
    let values = c.args.values.now in
    let k = c.loop-k.k in
    let x = c.index-outputs-k.result in
    let e = c.outputs-outputs.ensures in
    let a : ℕ → Label = at values blank in
    let g : ℕ → Label = λ y. on_line f (Out y) (a y) in
    let below = output_below n c.requires.sound c.outputs-outputs.result.now k x c.index.result (length values) e c.loop-k-test.true c.index-outputs-k.is c.index.ensures c.requires.size in
    let made : c.on_line-label.result ≡ on_line f (Out x) (at values blank c.index.result) =
    c.on_line-label.ensures ∙ ap (on_line f (Out x)) (get_or_default values c.index.result _ blank below) in
    let size : length (map g (take k n.outputs)) ≡ k =
    length-map (take k n.outputs) g ∙ length-take-le k n.outputs (let s = ap length e in let l = c.loop-k-test.true in omega arith) in
    subst (λ (ls : List Label). IsSight ls c.see-sight.result)
    (output_more (labels f (λ y. None)) a n.outputs c.outputs-outputs.result.now k x (map g (take k n.outputs)) (map g (take k n.outputs) ++ c.on_line-label.result ∷ []) c.on_line-label.result
    (at values blank c.index.result) e c.loop-k-test.true c.index-outputs-k.is made (ap a c.index.ensures) refl refl)
    (c.see-sight.ensures (map g (take k n.outputs)) size c.loop-k.invariant)

pub returns : goal.returns
returns c path =
    let n = c.args.netlist.now in
    let g : ℕ → Label = λ y. on_line c.args.fault.now (Out y) (at c.args.values.now blank y) in
    subst (λ (ls : List Label). IsSight ls c.loop-k.sight)
    (ap (map g) (ap (take c.loop-k.k) (sym c.outputs-outputs.ensures) ∙ (take_all c.loop-k.k c.outputs-outputs.result.now c.loop-k-test.false ∙ c.outputs-outputs.ensures))) c.loop-k.invariant
