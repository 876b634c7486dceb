use Rattle.std.proofs.Common.{◌≤◌, IsTrue, length, refl, subst, arith, rules}
use Rattle.std.specs.List.{All}
use Rattle.std.proofs.lemmas.List.{take_all}
use Rattle.statement.specs.declared.lines.Fault.{Fault}
use Rattle.transition_batches.specs.Batches.{AreApart}
use Rattle.transition.proofs.BatchLemmas.{one_apart}
use Rattle.transition.proofs.batching.is_apart.Goals as goal

pub loop-other-preserved : goal.loop-other-preserved
loop-other-preserved c =
    let told : IsTrue c.are_apart.result = search rules in
    one_apart c.args.netlist.now c.args.taken.now c.loop-other.other-index c.other-item.result c.args.fault.now c.loop-other-test.true c.loop-other.invariant c.other-item.is (c.are_apart.ensures.0 told)

pub returns : goal.returns
returns c =
    let end : length c.args.taken.now ≤ c.loop-other.other-index = let past = c.loop-other-test.false in omega arith in (
      λ _. subst (All (λ (f : Fault). AreApart c.args.netlist.now f c.args.fault.now)) (take_all c.loop-other.other-index c.args.taken.now end) c.loop-other.invariant,
      λ _. refl,
    )
