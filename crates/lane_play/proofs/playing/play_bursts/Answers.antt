use Rattle.std.proofs.Common.{◌+◌, None, drop, take, arith}
use Rattle.scan_play.specs.Bursts.{all_cycles, cycles_of}
use Rattle.scan_play.specs.inner.Unmet.{unmet_by}
use Rattle.scan_play.proofs.PlaySteps.{burst_fits}
use Rattle.lane_play.specs.inner.Steps.{KeepsBehind}
use Rattle.lane_play.proofs.PlayedLemmas.{burst_next, burst_within, bursts_done, bursts_more, bursts_stopped, keeps_none, keeps_then, keeps_whole}
use Rattle.lane_play.proofs.playing.play_bursts.Goals as goal

pub play_burst-requires-clause-fits : goal.play_burst-requires-clause-fits
play_burst-requires-clause-fits g c =
    burst_fits unmet_by None c.args.play.now.core.now c.args.bursts.now c.loop-burst.burst-index c.burst-item.result c.requires.fits c.loop-burst-test.true c.burst-item.is

pub play_burst-requires-clause-few : goal.play_burst-requires-clause-few
play_burst-requires-clause-few g c =
    let l = burst_within c.args.bursts.now c.loop-burst.burst-index c.burst-item.result c.loop-burst-test.true c.burst-item.is in
    let few = c.requires.few in
    let at = c.loop-burst.invariant.number in
    omega arith

pub overflow_add-number : goal.overflow_add-number
overflow_add-number g c =
    let l = burst_within c.args.bursts.now c.loop-burst.burst-index c.burst-item.result c.loop-burst-test.true c.burst-item.is in
    let few = c.requires.few in
    let at = c.loop-burst.invariant.number in
    omega arith

pub returns-then-is_done : goal.returns-then-is_done
returns-then-is_done g c =
    let faults = c.args.play.now.rule.faults.now in
    let n = c.args.play.now.core.now in
    let bursts = c.args.bursts.now in
    let i = c.loop-burst.burst-index in
    let first = c.args.first in
    let begin = c.args.bench.now.state.items in
    let state = c.play_burst.new.bench.state.items in
    let J = c.args.play.now.judge.now in
    let kept = g.W.Watch.kept J in
    bursts_stopped (λ cs. KeepsBehind (kept c.args.watch) (kept c.in_ok-so_far.so_far) faults n first cs begin state) bursts (i + 1)
    (keeps_whole (kept c.args.watch) (kept c.in_ok-so_far.so_far) faults n first (all_cycles (take (i + 1) bursts)) (all_cycles (drop (i + 1) bursts)) begin state (c.is_done.ensures c.if-is_done.true J)
    (bursts_more (λ cs. KeepsBehind (kept c.args.watch) (kept c.in_ok-so_far.so_far) faults n first cs begin state) bursts i c.burst-item.result c.loop-burst-test.true c.burst-item.is
    (keeps_then (kept c.args.watch) (kept c.loop-burst.so_far) (kept c.in_ok-so_far.so_far) faults n first c.loop-burst.number (all_cycles (take i bursts)) (cycles_of c.burst-item.result) begin
    c.loop-burst.bench.state.items state c.loop-burst.invariant.number c.loop-burst.invariant.played c.in_ok-so_far.ensures.played)))

pub loop-burst-init : goal.loop-burst-init
loop-burst-init g c = record {
  number = omega arith;
  bench = c.requires.bench;
  played = keeps_none (g.W.Watch.kept c.args.play.now.judge.now c.args.watch) c.args.play.now.rule.faults.now c.args.play.now.core.now c.args.first c.args.bench.now.state.items;
}

pub loop-burst-preserved : goal.loop-burst-preserved
loop-burst-preserved g c =
    let bursts = c.args.bursts.now in
    let i = c.loop-burst.burst-index in
    let faults = c.args.play.now.rule.faults.now in
    let n = c.args.play.now.core.now in
    let first = c.args.first in
    let begin = c.args.bench.now.state.items in
    let state = c.play_burst.new.bench.state.items in
    let kept = g.W.Watch.kept c.args.play.now.judge.now in
    let next = burst_next bursts i c.burst-item.result c.loop-burst-test.true c.burst-item.is in
    let at = c.loop-burst.invariant.number in
    record {
      number = omega arith;
      bench = c.in_ok-so_far.ensures.bench;
      played = bursts_more (λ cs. KeepsBehind (kept c.args.watch) (kept c.in_ok-so_far.so_far) faults n first cs begin state) bursts i c.burst-item.result c.loop-burst-test.true c.burst-item.is
          (keeps_then (kept c.args.watch) (kept c.loop-burst.so_far) (kept c.in_ok-so_far.so_far) faults n first c.loop-burst.number (all_cycles (take i bursts)) (cycles_of c.burst-item.result) begin
          c.loop-burst.bench.state.items state c.loop-burst.invariant.number c.loop-burst.invariant.played c.in_ok-so_far.ensures.played);
    }

pub returns : goal.returns
returns g c =
    let kept = g.W.Watch.kept c.args.play.now.judge.now in
    bursts_done (λ cs. KeepsBehind (kept c.args.watch) (kept c.loop-burst.so_far) c.args.play.now.rule.faults.now c.args.play.now.core.now c.args.first cs c.args.bench.now.state.items c.loop-burst.bench.state.items) c.args.bursts.now
    c.loop-burst.burst-index c.loop-burst-test.false c.loop-burst.invariant.played
