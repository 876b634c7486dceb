use Rattle.std.proofs.Common.{length, refl, sym, ◌∙◌, ap, arith, length-append}
use Rattle.transition_tests.proofs.LeafLemmas.{leaves_more, leaves_none}
use Rattle.transition_tests.proofs.leaves.leaves_of.Goals as goal

pub loop-verdict-init : goal.loop-verdict-init
loop-verdict-init c = record {
  count = refl;
  left = omega (arith, ap length c.into_iter-verdict-iterator.ensures.into_iter_gives.0);
  items = c.new-leaves.ensures.items ∙ sym (leaves_none c.args.faults.now);
}

pub loop-verdict-preserved : goal.loop-verdict-preserved
loop-verdict-preserved c =
    let i = c.loop-verdict.invariant in
    let rest = ap length c.in-Some.ensures.steps.0 in
    record {
      count = simp length-append (omega (arith, i.count));
      left = simp length-append (omega (arith, i.left, rest));
      items = leaves_more c.args.faults.now c.loop-verdict.yielded c.fault.result c.in-Some.verdict c.loop-verdict.place
          c.loop-verdict.leaves.items c.add_leaf.new.leaves.items i.count c.fault.ensures i.items c.in_ok-add_leaf.ensures;
    }
