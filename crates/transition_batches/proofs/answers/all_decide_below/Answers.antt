use Rattle.std.proofs.Common.{List, refl, subst, arith}
use Rattle.std.specs.List.{All}
use Rattle.std.proofs.lemmas.List.{take_all}
use Rattle.std.proofs.lemmas.List.Elements.{All-more}
use Rattle.redundancy_cert.specs.declared.nodes.Node.{Node}
use Rattle.transition_batches.specs.Batches.{DecidesBelow}
use Rattle.transition_batches.proofs.answers.all_decide_below.Goals as goal

pub loop-node-preserved : goal.loop-node-preserved
loop-node-preserved c =
    All-more (DecidesBelow c.args.bound) c.args.nodes.now c.loop-node.node-index c.node-item.result c.loop-node-test.true c.loop-node.invariant
    (subst (DecidesBelow c.args.bound) c.node-item.is (c.if-not-decides_below.ensures.0 refl))

pub returns : goal.returns
returns c =
    let last = c.loop-node-test.false in (
      λ _. subst (λ (nodes : List Node). All (DecidesBelow c.args.bound) nodes) (take_all c.loop-node.node-index c.args.nodes.now (omega arith)) c.loop-node.invariant,
      λ _. refl,
    )
