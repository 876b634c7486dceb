use Rattle.lane_play.proofs.VerdictLemmas.{one_judged}
use Rattle.lane_play.proofs.judging.judge_row.Goals as goal

pub loop-o-preserved : goal.loop-o-preserved
loop-o-preserved g c =
    let l = c.loop-o-test.true in
    let same = c.requires.same in
    one_judged (g.J.Judge.says c.args.judge.now) c.args.cycle c.loop-o.o c.args.strobes.now c.args.shown.now c.args.verdicts.found.items c.loop-o.so_far.found.items
    c.judge_output-so_far.result.found.items _ _ l c.requires.same c.judge_output-so_far.ensures c.loop-o.invariant
