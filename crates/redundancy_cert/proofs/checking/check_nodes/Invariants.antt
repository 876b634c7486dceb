use Rattle.std.proofs.Common.{take, ◌≤◌}
use Rattle.redundancy_cert.specs.Fits.{AreCounts}
use Rattle.redundancy_cert.specs.inner.Passing.{SameRun}
use Rattle.redundancy_cert.specs.inner.Walk.{IsAt, IsChecked}
use Rattle.redundancy_cert.proofs.checking.check_nodes.Given as goal

abbrev pub invariant-loop-i : goal.invariant-loop-i
invariant-loop-i l = record {
  at : IsAt l.pass l.path.items;
  same : SameRun l.fn.pass l.pass;
  checked : IsChecked l.fault l.fn.pass.netlist l.fn.pass.holds l.nodes l.i l.path.items;
  counts : AreCounts (take l.i l.nodes) l.counts;
  closed : l.counts.closed ≤ l.i;
  left_open : l.counts.left_open ≤ l.i;
}
