use Rattle.scan_play.proofs.PlaySteps.{cycle_fits, burst_more, burst_found, burst_done}
use Rattle.scan_play.proofs.playing.play_cycles.Goals as goal

pub play_cycle-requires-clause-fits : goal.play_cycle-requires-clause-fits
play_cycle-requires-clause-fits g c = cycle_fits c.args.core.now c.args.burst.now c.loop-t.t c.requires.fits c.loop-t-test.true

pub play_cycle-requires-clause-size : goal.play_cycle-requires-clause-size
play_cycle-requires-clause-size g c = c.loop-t.invariant.plays.size

pub play_cycle-requires-clause-room : goal.play_cycle-requires-clause-room
play_cycle-requires-clause-room g c = c.loop-t.invariant.room

pub returns-clause-room : goal.returns-clause-room
returns-clause-room g c = c.loop-t.invariant.room

pub returns-clause-played : goal.returns-clause-played
returns-clause-played g c =
    burst_done (g.J.Judge.says c.args.judge.now) c.args.rule.now.fault c.args.core.now c.args.burst.now c.loop-t.t c.args.first c.args.bench.now.state.items c.loop-t.bench.state.items c.loop-t-test.false c.loop-t.invariant.plays

pub returns-in-Some-clause-played : goal.returns-in-Some-clause-played
returns-in-Some-clause-played g c =
    burst_found (g.J.Judge.says c.args.judge.now) c.args.rule.now.fault c.args.core.now c.args.burst.now c.loop-t.t c.args.first c.args.bench.now.state.items c.loop-t.bench.state.items c.play_cycle.new.bench.state.items
    c.in_ok-played.field-0 c.in-Some.played c.loop-t-test.true c.loop-t.invariant.plays c.in_ok-played.ensures.played c.in-Some.is

pub loop-t-preserved : goal.loop-t-preserved
loop-t-preserved g c = record {
  room = c.in_ok-played.ensures.room;
  plays = burst_more (g.J.Judge.says c.args.judge.now) c.args.rule.now.fault c.args.core.now c.args.burst.now c.loop-t.t c.args.first c.args.bench.now.state.items c.loop-t.bench.state.items c.play_cycle.new.bench.state.items
      c.in_ok-played.field-0 c.loop-t-test.true c.loop-t.invariant.plays c.in_ok-played.ensures.played c.in-None.is;
}
