use Rattle.std.proofs.Common.{◌≡◌, ◌≤◌, ◌+◌, ◌*◌, drop}
use Rattle.certificate.specs.inner.Pending.{are_trees}
use Rattle.certificate.proofs.one_tree.is_one_tree.Given as goal

abbrev pub invariant-loop-node : goal.invariant-loop-node
invariant-loop-node l = record {
  small : l.pending ≤ 2 * l.node-index + 1;
  same : are_trees 1 l.nodes ≡ are_trees l.pending (drop l.node-index l.nodes);
}
