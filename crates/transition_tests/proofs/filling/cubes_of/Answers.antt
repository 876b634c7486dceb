use Rattle.transition_tests.proofs.CubeLemmas.{cubes_more}
use Rattle.transition_tests.proofs.filling.cubes_of.Goals as goal

pub loop-answer-preserved : goal.loop-answer-preserved
loop-answer-preserved c =
    cubes_more c.args.found.now c.loop-answer.answer-index c.answer-item.result c.loop-answer.cubes.items c.push_cube.new.cubes.items c.loop-answer-test.true c.answer-item.is
    c.loop-answer.invariant c.in_ok-push_cube.ensures
