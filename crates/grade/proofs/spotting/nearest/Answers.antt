use Rattle.word_sim.proofs.Found.{first_more}
use Rattle.grade.specs.inner.Keys.{most_key}
use Rattle.grade.proofs.spotting.nearest.Goals as goal

pub loop-change-preserved : goal.loop-change-preserved
loop-change-preserved c =
    first_more c.args.keys.now most_key c.args.values.now c.args.j c.args.trail.now c.loop-change.change-index c.loop-change.least c.nearer-least.result c.change-item.result
    c.loop-change-test.true c.change-item.is c.loop-change.invariant c.nearer-least.ensures
