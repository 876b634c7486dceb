use Rattle.std.proofs.Common.{◌+◌, ◌<◌, length, set, take, true, refl, ap, ◌∙◌, subst, arith}
use Rattle.netlist.specs.Conditions.{IsSound}
use Rattle.statement.specs.Netlists.{Netlist}
use Rattle.netlist.proofs.Observed.{output_below}
use Rattle.redundancy_cert.proofs.MarkLemmas.{marks_more, outputs_more}
use Rattle.redundancy_cert.proofs.observed.mark_outputs.Goals as goal

pub index_mut-requires : goal.index_mut-requires
index_mut-requires c =
    let below : c.index.result < length c.loop-x.marks.items =
    output_below c.args.core.now (subst IsSound c.netlist.ensures c.sound.ensures) c.outputs-x-items.result.now c.loop-x.x-index c.x-item.result c.index.result
    (length c.loop-x.marks.items) (c.outputs-x-items.ensures ∙ ap (λ (m : Netlist). m.outputs) c.netlist-2.ensures) c.loop-x-test.true c.x-item.is c.index.ensures
    (c.loop-x.invariant.size ∙ c.requires) in
    omega arith

pub loop-x-preserved : goal.loop-x-preserved
loop-x-preserved c =
    let n = c.args.core.now in
    let k = c.loop-x.x-index in
    let e = c.outputs-x-items.ensures ∙ ap (λ (m : Netlist). m.outputs) c.netlist-2.ensures in
    marks_more (take k n.outputs) (take (k + 1) n.outputs) c.index.result c.args.marks.now.items c.loop-x.marks.items (set c.loop-x.marks.items c.index.result true)
    (
    output_below c.args.core.now (subst IsSound c.netlist.ensures c.sound.ensures) c.outputs-x-items.result.now c.loop-x.x-index c.x-item.result c.index.result
    (length c.loop-x.marks.items) (c.outputs-x-items.ensures ∙ ap (λ (m : Netlist). m.outputs) c.netlist-2.ensures) c.loop-x-test.true c.x-item.is c.index.ensures
    (c.loop-x.invariant.size ∙ c.requires)) (outputs_more n.outputs c.outputs-x-items.result.now k c.x-item.result c.index.result e c.loop-x-test.true c.x-item.is c.index.ensures)
    refl c.loop-x.invariant
