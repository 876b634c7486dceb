use Rattle.std.proofs.Common.{arith}
use Rattle.scan_play.proofs.PlaySteps.{burst_fits, number_below, number_more, bursts_found, bursts_none}
use Rattle.scan_play.proofs.playing.play_bursts.Goals as goal

pub play_burst-requires-clause-fits : goal.play_burst-requires-clause-fits
play_burst-requires-clause-fits g c =
    burst_fits (g.J.Judge.says c.args.judge.now) c.args.rule.now.fault c.args.core.now c.args.bursts.now c.loop-burst.burst-index c.burst-item.result c.requires.fits c.loop-burst-test.true c.burst-item.is

pub play_burst-requires-clause-few : goal.play_burst-requires-clause-few
play_burst-requires-clause-few g c =
    let l = number_below (g.J.Judge.says c.args.judge.now) c.args.rule.now.fault c.args.core.now c.args.bursts.now c.loop-burst.burst-index c.loop-burst.first c.burst-item.result c.loop-burst-test.true c.burst-item.is c.loop-burst.invariant.number in
    let few = c.requires.few in
    omega arith

pub play_burst-requires-clause-room : goal.play_burst-requires-clause-room
play_burst-requires-clause-room g c = c.loop-burst.invariant.room

pub overflow_add-first : goal.overflow_add-first
overflow_add-first g c =
    let l = number_below (g.J.Judge.says c.args.judge.now) c.args.rule.now.fault c.args.core.now c.args.bursts.now c.loop-burst.burst-index c.loop-burst.first c.burst-item.result c.loop-burst-test.true c.burst-item.is c.loop-burst.invariant.number in
    let few = c.requires.few in
    omega arith

pub returns-in-Some : goal.returns-in-Some
returns-in-Some g c =
    bursts_found (g.J.Judge.says c.args.judge.now) c.args.rule.now.fault c.args.core.now c.args.bursts.now c.loop-burst.burst-index c.loop-burst.first c.burst-item.result c.args.bench.now.state.items
    c.loop-burst.bench.state.items c.play_burst.new.bench.state.items c.in_ok-played.field-0 c.in-Some.played c.loop-burst-test.true c.burst-item.is c.loop-burst.invariant.number
    c.loop-burst.invariant.plays c.in_ok-played.ensures.played c.in-Some.is

pub loop-burst-preserved : goal.loop-burst-preserved
loop-burst-preserved g c = record {
  number = number_more (g.J.Judge.says c.args.judge.now) c.args.rule.now.fault c.args.core.now c.args.bursts.now c.loop-burst.burst-index c.loop-burst.first c.burst-item.result c.loop-burst-test.true c.burst-item.is c.loop-burst.invariant.number;
  room = c.in_ok-played.ensures.room;
  plays = bursts_none (g.J.Judge.says c.args.judge.now) c.args.rule.now.fault c.args.core.now c.args.bursts.now c.loop-burst.burst-index c.loop-burst.first c.burst-item.result c.args.bench.now.state.items
      c.loop-burst.bench.state.items c.play_burst.new.bench.state.items c.in_ok-played.field-0 c.loop-burst-test.true c.burst-item.is c.loop-burst.invariant.number
      c.loop-burst.invariant.plays c.in_ok-played.ensures.played c.in-None.is;
}
