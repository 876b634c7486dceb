use Rattle.std.proofs.Common.{◌≡◌, [], length}
use Rattle.scan_play.specs.inner.Plans.{AreReady}
use Rattle.scan_play.proofs.planning.mark_ready.Given as goal

abbrev pub invariant-loop-x : goal.invariant-loop-x
invariant-loop-x l = record {
  size : length l.ready.items ≡ l.x;
  are : AreReady l.netlist l.base [] l.ready.items;
}
