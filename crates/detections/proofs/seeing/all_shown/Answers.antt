use Rattle.word_sim.specs.inner.Differences.{shows}
use Rattle.word_sim.proofs.Found.{all_more}
use Rattle.detections.proofs.seeing.all_shown.Goals as goal

pub loop-change-preserved : goal.loop-change-preserved
loop-change-preserved c =
    all_more c.args.trail.now c.loop-change.change-index c.change-item.result c.loop-change-test.true c.change-item.is (shows c.args.first.now c.args.count c.args.values.now)
    c.loop-change.all c.shown-all.result c.loop-change.invariant c.shown-all.ensures
