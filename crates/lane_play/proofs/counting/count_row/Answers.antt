use Rattle.lane_play.specs.Counted.{on_one, on_other}
use Rattle.lane_play.proofs.CountedLemmas.{one_more}
use Rattle.lane_play.proofs.counting.count_row.Goals as goal

pub loop-o-preserved : goal.loop-o-preserved
loop-o-preserved g c =
    let says = g.S.Judge.says c.args.sides.now in
    let side = g.S.Sides.side c.args.sides.now in
    let l = c.loop-o-test.true in
    let one = c.loop-o.so_far.one.items in
    let other = c.loop-o.so_far.other.items in
    record {
      one = one_more (on_one says side) c.args.cycle c.loop-o.o c.args.strobes.now c.args.shown.now c.args.counts.one.items one c.in_ok-so_far.so_far.one.items _ _ l c.requires.same c.in_ok-so_far.ensures.one c.loop-o.invariant.one;
      other = one_more (on_other says side) c.args.cycle c.loop-o.o c.args.strobes.now c.args.shown.now c.args.counts.other.items other c.in_ok-so_far.so_far.other.items _ _ l c.requires.same c.in_ok-so_far.ensures.other c.loop-o.invariant.other;
    }
