use Rattle.std.proofs.Common.{◌≡◌, ◌++◌, length, map, replicate, sym, ◌∙◌, ap, subst, arith}
use Rattle.std.proofs.lemmas.List.{length-map}
use Rattle.statement.specs.Netlists.{Definition, Netlist, cells}
use Rattle.netlist.specs.Orders.{IsOrder}
use Rattle.lane_play.specs.inner.Lanes.{unknown}
use Rattle.lane_play.proofs.ShiftLemmas.{still_driven, still_settled}
use Rattle.lane_play.proofs.planning.settle_still.Goals as goal

pub settle_into-requires-clause-ordered : goal.settle_into-requires-clause-ordered
settle_into-requires-clause-ordered c = subst (λ (m : Netlist). IsOrder m c.order.result.now) (sym c.netlist-netlist.ensures) c.order.ensures

pub returns-clause-still : goal.returns-clause-still
returns-clause-still c =
    let n : Netlist = c.args.core.now in
    let wide : length c.inputs.result.now ≡ length n.inputs = ap length c.inputs.ensures ∙ ap (λ (m : Netlist). length m.inputs) c.netlist-netlist.ensures in
    let narrow : c.len.result ≡ length c.args.burst.now.drive.items = (let e = c.len.ensures in let o = c.args.burst.now.drive.ok.0 in omega arith) in
    let many : length c.cells.result.now ≡ length (cells n) =
    ap length c.cells.ensures ∙ (ap (λ (m : Netlist). length (map (λ (d : Definition). d.id) (cells m))) c.netlist-netlist.ensures ∙ length-map (cells n) (λ (d : Definition). d.id)) in
    still_settled c.args.rule.now.faults.now n c.netlist-netlist.result.now c.args.burst.now.drive.items c.deref-2.result.now c.deref-3.result.now c.settle_into.new.values.items c.netlist-netlist.ensures
    (still_driven n c.deref.result.now c.args.burst.now.drive.items c.clear.new.self.items c.push_always.new.values.items c.push_unknowns.new.values.items c.deref-2.result.now (length c.inputs.result.now) c.len.result
    wide narrow c.deref.ensures.value c.clear.ensures.items c.in_ok-push_always.ensures c.in_ok-push_unknowns.ensures c.deref-2.ensures.value)
    (c.deref-3.ensures.value
    ∙ (c.in_ok-push_unknowns-2.ensures
    ∙ (ap (λ vs. vs ++ replicate (length c.cells.result.now) unknown) c.clear-2.ensures.items ∙ ap (λ k. replicate k unknown) many)))
    c.settle_into.ensures.settled
