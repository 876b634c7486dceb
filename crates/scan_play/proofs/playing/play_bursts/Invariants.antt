use Rattle.std.proofs.Common.{◌≡◌, take, length, None}
use Rattle.statement.specs.Netlists.{signals}
use Rattle.scan_play.specs.Bursts.{all_cycles}
use Rattle.scan_play.specs.inner.Steps.{PlaysOn}
use Rattle.scan_play.proofs.playing.play_bursts.Given as goal

-- no strobe was unmet so far
abbrev pub invariant-loop-burst : goal.invariant-loop-burst
invariant-loop-burst g l = record {
  number : l.first ≡ length (all_cycles (take l.burst-index l.bursts));
  room : length l.bench.values.items ≡ length (signals l.core);
  plays : PlaysOn (g.J.Judge.says l.judge) l.rule.fault l.core (all_cycles (take l.burst-index l.bursts)) 0 l.initial.bench.state.items l.bench.state.items None;
}
