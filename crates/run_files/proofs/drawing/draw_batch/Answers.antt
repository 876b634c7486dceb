use Rattle.run_files.proofs.DrawLemmas.{is_batch, may_simulate}
use Rattle.run_files.proofs.drawing.draw_batch.Goals as goal

pub hits_of-requires-clause-batch : goal.hits_of-requires-clause-batch
hits_of-requires-clause-batch g c κs within =
    may_simulate c.args.errand.now.core.now c.args.errand.now.holds.now c.args.cube.now c.args.simulators.now c.in_ok-drawn.drawn.items c.args.left.now c.requires.drawing c.in_ok-drawn.ensures
    c.requires.lines c.deref.result.now c.deref.ensures.value

pub returns-clause-batch : goal.returns-clause-batch
returns-clause-batch g c =
    let batch = c.in_ok-taken_of.field-0 in
    is_batch c.args.errand.now.core.now c.args.errand.now.holds.now c.args.cube.now c.args.simulators.now c.in_ok-drawn.drawn.items c.args.left.now c.requires.drawing c.in_ok-drawn.ensures
    c.requires.lines batch.0.items batch.1.items c.in_ok-taken_of.ensures.taken c.in_ok-taken_of.ensures.rest
