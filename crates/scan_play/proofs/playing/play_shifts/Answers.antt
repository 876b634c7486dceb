use Rattle.scan_play.proofs.PlaySteps.{cycle_fits, burst_more, burst_found, burst_done}
use Rattle.scan_play.proofs.playing.play_shifts.Goals as goal

pub play_shift-requires-clause-fits : goal.play_shift-requires-clause-fits
play_shift-requires-clause-fits g c = cycle_fits c.args.core.now c.args.burst.now c.loop-t.t c.requires.fits c.loop-t-test.true

pub play_shift-requires-clause-size : goal.play_shift-requires-clause-size
play_shift-requires-clause-size g c = c.loop-t.invariant.plays.size

pub play_shift-requires-clause-planned : goal.play_shift-requires-clause-planned
play_shift-requires-clause-planned g c = c.loop-t.invariant.planned

pub returns-clause-room : goal.returns-clause-room
returns-clause-room g c = c.loop-t.invariant.planned.size

pub returns-clause-played : goal.returns-clause-played
returns-clause-played g c =
    burst_done (g.J.Judge.says c.args.judge.now) c.args.rule.now.fault c.args.core.now c.args.burst.now c.loop-t.t c.args.first c.args.bench.now.state.items c.loop-t.bench.state.items c.loop-t-test.false c.loop-t.invariant.plays

pub returns-in-Some-clause-room : goal.returns-in-Some-clause-room
returns-in-Some-clause-room g c = c.in_ok-played.ensures.planned.size

pub returns-in-Some-clause-played : goal.returns-in-Some-clause-played
returns-in-Some-clause-played g c =
    burst_found (g.J.Judge.says c.args.judge.now) c.args.rule.now.fault c.args.core.now c.args.burst.now c.loop-t.t c.args.first c.args.bench.now.state.items c.loop-t.bench.state.items c.play_shift.new.bench.state.items
    c.in_ok-played.field-0 c.in-Some.played c.loop-t-test.true c.loop-t.invariant.plays c.in_ok-played.ensures.played c.in-Some.is

pub loop-t-preserved : goal.loop-t-preserved
loop-t-preserved g c = record {
  planned = c.in_ok-played.ensures.planned;
  plays = burst_more (g.J.Judge.says c.args.judge.now) c.args.rule.now.fault c.args.core.now c.args.burst.now c.loop-t.t c.args.first c.args.bench.now.state.items c.loop-t.bench.state.items c.play_shift.new.bench.state.items
      c.in_ok-played.field-0 c.loop-t-test.true c.loop-t.invariant.plays c.in_ok-played.ensures.played c.in-None.is;
}
