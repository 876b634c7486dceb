use Rattle.run_files.proofs.DrawLemmas.{are_numbered, may_draw}
use Rattle.run_files.proofs.drawing.drawn_by.Goals as goal

pub draw_batches-requires-clause-drawing : goal.draw_batches-requires-clause-drawing
draw_batches-requires-clause-drawing g c κs within =
    may_draw c.args.errand.now.core.now c.args.errand.now.holds.now c.in_ok-cube.cube c.in_ok-simulators.simulators c.args.plan c.requires.ready c.in_ok-cube.ensures c.in_ok-simulators.ensures

pub draw_batches-requires-clause-lines : goal.draw_batches-requires-clause-lines
draw_batches-requires-clause-lines g c κs within =
    are_numbered c.args.errand.now.core.now c.deref.result.now c.args.left.now.faults.items c.in_ok-faults.faults.items c.in_ok-faults.ensures c.requires.faults c.deref.ensures.value
