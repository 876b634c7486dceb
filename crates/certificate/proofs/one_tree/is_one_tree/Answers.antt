use Rattle.std.proofs.Common.{◌-◌, arith}
use Rattle.certificate.proofs.PendingLemmas.{next_pending, nothing_pending, still_small, decided}
use Rattle.certificate.proofs.one_tree.is_one_tree.Goals as goal

pub returns-then-pending-eq0 : goal.returns-then-pending-eq0
returns-then-pending-eq0 c = (
  (λ e. cc),
  (λ one. absurd (nothing_pending c.args.nodes.now c.loop-node.node-index c.loop-node.pending c.node-item.result c.loop-node-test.true c.node-item.is c.if-pending-eq0.true c.loop-node.invariant.same one)),
)

pub loop-node-preserved : goal.loop-node-preserved
loop-node-preserved c =
    let i = c.loop-node.invariant in
    record {
      small = omega (arith, c.after-pending.ensures, still_small c.node-item.result (c.loop-node.pending - 1), i.small, c.if-pending-eq0.false);
      same = next_pending c.args.nodes.now c.loop-node.node-index c.loop-node.pending c.after-pending.result c.node-item.result c.loop-node-test.true c.node-item.is
          (omega (arith, c.if-pending-eq0.false)) c.after-pending.ensures i.same;
    }

pub returns : goal.returns
returns c = decided c.args.nodes.now c.loop-node.node-index c.loop-node.pending c.loop-node-test.false c.loop-node.invariant.same
