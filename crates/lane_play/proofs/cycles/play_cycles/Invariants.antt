use Rattle.std.proofs.Common.{◌≡◌, length, take}
use Rattle.statement.specs.Netlists.{cells}
use Rattle.scan_play.specs.Bursts.{cycles_of}
use Rattle.lane_play.specs.inner.Shifts.{AreEnough}
use Rattle.lane_play.specs.inner.Steps.{KeepsBehind}
use Rattle.lane_play.proofs.cycles.play_cycles.Given as goal

abbrev pub invariant-loop-t : goal.invariant-loop-t
invariant-loop-t g l = record {
  size : length l.bench.state.items ≡ length (cells l.play.core.now);
  enough : AreEnough l.play.rule.faults.now l.play.core.now l.passage.burst.now l.passage.steps.now l.bench.values.items;
  played : KeepsBehind (g.W.Watch.kept l.play.judge.now l.initial.so_far) (g.W.Watch.kept l.play.judge.now l.so_far) l.play.rule.faults.now l.play.core.now l.passage.first (take l.t (cycles_of l.passage.burst.now))
      l.initial.bench.state.items l.bench.state.items;
}
