use Rattle.std.proofs.Common.{◌≡◌, length, take, None}
use Rattle.statement.specs.Netlists.{signals}
use Rattle.scan_play.specs.Bursts.{cycles_of}
use Rattle.scan_play.specs.inner.Steps.{PlaysOn}
use Rattle.scan_play.proofs.playing.play_cycles.Given as goal

-- no strobe was unmet so far
abbrev pub invariant-loop-t : goal.invariant-loop-t
invariant-loop-t g l = record {
  room : length l.bench.values.items ≡ length (signals l.core);
  plays : PlaysOn (g.J.Judge.says l.judge) l.rule.fault l.core (take l.t (cycles_of l.burst)) l.first l.initial.bench.state.items l.bench.state.items None;
}
