use Rattle.std.proofs.Common.{◌≡◌, ◌+◌, length, take}
use Rattle.scan_play.specs.Bursts.{all_cycles}
use Rattle.lane_play.specs.inner.Steps.{AreSized, KeepsBehind}
use Rattle.lane_play.proofs.playing.play_bursts.Given as goal

abbrev pub invariant-loop-burst : goal.invariant-loop-burst
invariant-loop-burst g l = record {
  number : l.number ≡ l.first + length (all_cycles (take l.burst-index l.bursts));
  bench : AreSized l.play.core.now l.bench.state.items l.bench.values.items;
  played : KeepsBehind (g.W.Watch.kept l.play.judge.now l.initial.so_far) (g.W.Watch.kept l.play.judge.now l.so_far) l.play.rule.faults.now l.play.core.now l.first (all_cycles (take l.burst-index l.bursts)) l.initial.bench.state.items l.bench.state.items;
}
