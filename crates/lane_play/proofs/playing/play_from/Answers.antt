use Rattle.std.proofs.Common.{List, subst}
use Rattle.scan_play.specs.Bursts.{all_cycles}
use Rattle.lane_play.specs.declared.packed.Lanes.{Lanes}
use Rattle.lane_play.specs.inner.Steps.{KeepsBehind}
use Rattle.lane_play.proofs.playing.play_from.Goals as goal

pub returns : goal.returns
returns g c =
    let p = c.args.play.now in
    let kept = g.W.Watch.kept p.judge.now in
    subst (λ (s : List Lanes). KeepsBehind (kept c.args.watch) (kept c.in_ok-heard.heard) p.rule.faults.now p.core.now c.args.first (all_cycles c.args.bursts.now) s c.play_bursts.new.bench.state.items)
    c.in_ok-bench.ensures.state c.in_ok-heard.ensures
