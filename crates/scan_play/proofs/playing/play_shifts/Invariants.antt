use Rattle.std.proofs.Common.{take, None}
use Rattle.scan_play.specs.Bursts.{cycles_of}
use Rattle.scan_play.specs.inner.Plans.{IsPlanned}
use Rattle.scan_play.specs.inner.Steps.{PlaysOn}
use Rattle.scan_play.proofs.playing.play_shifts.Given as goal

-- no strobe was unmet so far
abbrev pub invariant-loop-t : goal.invariant-loop-t
invariant-loop-t g l = record {
  planned : IsPlanned l.rule.fault l.core l.burst.drive.items l.burst.strobe.items l.steps l.bench.values.items;
  plays : PlaysOn (g.J.Judge.says l.judge) l.rule.fault l.core (take l.t (cycles_of l.burst)) l.first l.initial.bench.state.items l.bench.state.items None;
}
