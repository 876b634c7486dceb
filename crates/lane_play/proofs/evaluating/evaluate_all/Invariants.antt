use Rattle.std.proofs.Common.{◌≡◌, take, length}
use Rattle.netlist.specs.Settling.{AreEvaluated}
use Rattle.lane_play.specs.inner.Lanes.{lanes_rule}
use Rattle.lane_play.proofs.evaluating.evaluate_all.Given as goal

abbrev pub invariant-loop-id : goal.invariant-loop-id
invariant-loop-id l = record {
  size : length l.values.items ≡ length l.initial.values.items;
  made : AreEvaluated (lanes_rule l.rule.faults.now) l.netlist (take l.id-index l.steps) l.initial.values.items l.values.items;
}
