use Rattle.std.proofs.Common.{◌+◌}
use Rattle.scan_play.proofs.PlaySteps.{cycle_fits}
use Rattle.lane_play.proofs.PlayedLemmas.{keeps_all, keeps_more, keeps_none, keeps_rest}
use Rattle.lane_play.proofs.ShiftLemmas.{enough_size}
use Rattle.lane_play.proofs.cycles.play_cycles.Goals as goal

pub play_cycle-requires-clause-fits : goal.play_cycle-requires-clause-fits
play_cycle-requires-clause-fits g c = cycle_fits c.args.play.now.core.now c.args.passage.now.burst.now c.loop-t.t c.requires.fits c.loop-t-test.true

pub returns-then-is_done-clause-bench : goal.returns-then-is_done-clause-bench
returns-then-is_done-clause-bench g c =
    let p = c.args.passage.now in
    let e = c.in_ok-so_far.ensures in
    (e.size, enough_size c.args.play.now.rule.faults.now c.args.play.now.core.now p.burst.now p.steps.now c.play_cycle.new.bench.values.items e.enough)

pub returns-then-is_done-clause-played : goal.returns-then-is_done-clause-played
returns-then-is_done-clause-played g c =
    let p = c.args.passage.now in
    let faults = c.args.play.now.rule.faults.now in
    let n = c.args.play.now.core.now in
    let t = c.loop-t.t in
    let begin = c.args.bench.now.state.items in
    let state = c.play_cycle.new.bench.state.items in
    let kept = g.W.Watch.kept c.args.play.now.judge.now in
    keeps_rest (kept c.args.watch) (kept c.in_ok-so_far.so_far) faults n p.first p.burst.now (t + 1) begin state (c.is_done.ensures c.if-is_done.true c.args.play.now.judge.now)
    (keeps_more (kept c.args.watch) (kept c.in_ok-so_far.so_far) faults n p.first p.burst.now t begin state (kept c.loop-t.so_far) c.loop-t.bench.state.items c.loop-t-test.true c.loop-t.invariant.played
    c.in_ok-so_far.ensures.played)

pub loop-t-init : goal.loop-t-init
loop-t-init g c = record {
  size = c.requires.size;
  enough = c.requires.enough;
  played = keeps_none (g.W.Watch.kept c.args.play.now.judge.now c.args.watch) c.args.play.now.rule.faults.now c.args.play.now.core.now c.args.passage.now.first c.args.bench.now.state.items;
}

pub loop-t-preserved : goal.loop-t-preserved
loop-t-preserved g c =
    let p = c.args.passage.now in
    let kept = g.W.Watch.kept c.args.play.now.judge.now in
    let e = c.in_ok-so_far.ensures in
    record {
      size = e.size;
      enough = e.enough;
      played = keeps_more (kept c.args.watch) (kept c.in_ok-so_far.so_far) c.args.play.now.rule.faults.now c.args.play.now.core.now p.first p.burst.now c.loop-t.t c.args.bench.now.state.items
          c.play_cycle.new.bench.state.items (kept c.loop-t.so_far) c.loop-t.bench.state.items c.loop-t-test.true c.loop-t.invariant.played e.played;
    }

pub returns-clause-bench : goal.returns-clause-bench
returns-clause-bench g c =
    let p = c.args.passage.now in
    (c.loop-t.invariant.size, enough_size c.args.play.now.rule.faults.now c.args.play.now.core.now p.burst.now p.steps.now c.loop-t.bench.values.items c.loop-t.invariant.enough)

pub returns-clause-played : goal.returns-clause-played
returns-clause-played g c =
    let p = c.args.passage.now in
    let kept = g.W.Watch.kept c.args.play.now.judge.now in
    keeps_all (kept c.args.watch) (kept c.loop-t.so_far) c.args.play.now.rule.faults.now c.args.play.now.core.now p.first p.burst.now c.loop-t.t c.args.bench.now.state.items c.loop-t.bench.state.items
    c.loop-t-test.false c.loop-t.invariant.played
