use Rattle.word_sim.proofs.Found.{first_more}
use Rattle.word_sim.proofs.detecting.first_shown.Goals as goal

pub loop-change-preserved : goal.loop-change-preserved
loop-change-preserved c =
    first_more c.args.first.now c.args.count c.args.values.now c.args.j c.args.trail.now c.loop-change.change-index c.loop-change.least c.lesser-least.result c.change-item.result
    c.loop-change-test.true c.change-item.is c.loop-change.invariant c.lesser-least.ensures
