use Rattle.std.proofs.Common.{ℕ, List, [], ◌∷◌, ◌++◌, take, sym, ap, subst, ◌∙◌, arith}
use Rattle.std.proofs.lemmas.List.{take_all, take_more}
use Rattle.netlist.specs.Netlist.{IsGateAt}
use Rattle.netlist.specs.Settling.{AreEvaluated}
use Rattle.netlist.proofs.Settling.{evaluate_more}
use Rattle.lane_play.specs.inner.Lanes.{lanes_rule}
use Rattle.lane_play.proofs.evaluating.evaluate_all.Goals as goal

pub evaluate-requires-clause-gate : goal.evaluate-requires-clause-gate
evaluate-requires-clause-gate c = subst (IsGateAt c.args.netlist.now) (sym c.id-item.is) (c.requires.gates c.loop-id.id-index c.id-item.result c.loop-id-test.true)

pub evaluate-requires-clause-size : goal.evaluate-requires-clause-size
evaluate-requires-clause-size c = c.loop-id.invariant.size ∙ c.requires.size

pub loop-id-preserved : goal.loop-id-preserved
loop-id-preserved c =
    let rule = lanes_rule c.args.rule.now.faults.now in
    let n = c.args.netlist.now in
    let steps = c.args.steps.now in
    let k = c.loop-id.id-index in
    let more = take_more steps k c.id-item.result c.loop-id-test.true ∙ ap (λ x. take k steps ++ x ∷ []) (sym c.id-item.is) in
    record {
      size = c.evaluate.ensures.size ∙ c.loop-id.invariant.size;
      made = subst (λ (xs : List ℕ). AreEvaluated rule n xs c.args.values.now.items c.evaluate.new.values.items) (sym more)
          (evaluate_more rule n (take k steps) c.id-item.result c.args.values.now.items c.loop-id.values.items c.evaluate.new.values.items c.loop-id.invariant.made c.evaluate.ensures);
    }

pub returns-clause-made : goal.returns-clause-made
returns-clause-made c =
    subst (λ (xs : List ℕ). AreEvaluated (lanes_rule c.args.rule.now.faults.now) c.args.netlist.now xs c.args.values.now.items c.loop-id.values.items)
    (take_all c.loop-id.id-index c.args.steps.now (let f = c.loop-id-test.false in omega arith)) c.loop-id.invariant.made
