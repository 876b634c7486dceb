use Rattle.std.proofs.Common.{◌<◌, length, sym, ◌∙◌, subst, inl, inr}
use Rattle.std.specs.List.{All}
use Rattle.std.proofs.lemmas.List.{get_or_default}
use Rattle.std.proofs.lemmas.List.Elements.{All-push}
use Rattle.netlist.specs.Netlist.{IsGateAt}
use Rattle.scan_play.proofs.planning.choose.Goals as goal

pub loop-gate-preserved : goal.loop-gate-preserved
loop-gate-preserved c =
    let n = c.args.core.now in
    let order = c.order-gate-items.result.now in
    let l : c.loop-gate.gate-index < length order = c.loop-gate-test.true in
    let is = c.gate-item.is ∙ get_or_default order c.loop-gate.gate-index c.gate-item.result 0 l in
    let gate : IsGateAt n c.gate-item.result = subst (IsGateAt n) (sym is) (c.order-gate-items.ensures.members c.loop-gate.gate-index 0 l) in
    elim c.in_ok-push_step.ensures [
      | inl e ↦ subst (All (IsGateAt n)) (sym e) (All-push (IsGateAt n) c.loop-gate.steps.items c.gate-item.result c.loop-gate.invariant gate)
      | inr e ↦ subst (All (IsGateAt n)) (sym e) c.loop-gate.invariant
    ]
