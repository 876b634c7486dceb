use Rattle.std.proofs.Common.{map, take, ap, sym, ◌∙◌, length, arith}
use Rattle.std.proofs.lemmas.List.{get_or_default, take_all}
use Rattle.statement.specs.declared.lines.Line.TheVariants.{Out}
use Rattle.netlist.specs.Settled.{at}
use Rattle.netlist.proofs.Observed.{output_below, output_more}
use Rattle.netlist.proofs.observing.outs_into.Goals as goal

pub loop-x-init : goal.loop-x-init
loop-x-init g c d = c.clear.ensures.items

pub bounds-values-index : goal.bounds-values-index
bounds-values-index g c =
    output_below c.args.netlist.now c.requires.sound c.outputs-x-items.result.now c.loop-x.x-index c.x-item.result c.index.result (length c.args.values.now)
    c.outputs-x-items.ensures c.loop-x-test.true c.x-item.is c.index.ensures c.requires.size

pub offset_bounds-values-index : goal.offset_bounds-values-index
offset_bounds-values-index g c =
    let l = output_below c.args.netlist.now c.requires.sound c.outputs-x-items.result.now c.loop-x.x-index c.x-item.result c.index.result (length c.args.values.now)
    c.outputs-x-items.ensures c.loop-x-test.true c.x-item.is c.index.ensures c.requires.size in omega arith

pub loop-x-preserved : goal.loop-x-preserved
loop-x-preserved g c d =
    let n = c.args.netlist.now in
    let rule = g.L.Logic.rule c.args.logic.now in
    let values = c.args.values.now in
    let k = c.loop-x.x-index in
    let e = c.outputs-x-items.ensures in
    let below = output_below n c.requires.sound c.outputs-x-items.result.now k c.x-item.result c.index.result (length values) e c.loop-x-test.true c.x-item.is c.index.ensures c.requires.size in
    output_more rule (at values d) n.outputs c.outputs-x-items.result.now k c.x-item.result c.loop-x.found.items c.push.new.self.items c.line.result c.index-values-index.result
    e c.loop-x-test.true c.x-item.is c.line.ensures
    (c.index-values-index.is ∙ (get_or_default values c.index.result c.index-values-index.result d below ∙ ap (at values d) c.index.ensures))
    c.in_ok-push.ensures.items (c.loop-x.invariant d)

pub returns : goal.returns
returns g c d =
    c.loop-x.invariant d
    ∙ ap (map (λ x. (g.L.Logic.rule c.args.logic.now).line (Out x) (at c.args.values.now d x)))
    (ap (take c.loop-x.x-index) (sym c.outputs-x-items.ensures) ∙ (take_all c.loop-x.x-index c.outputs-x-items.result.now c.loop-x-test.false ∙ c.outputs-x-items.ensures))
