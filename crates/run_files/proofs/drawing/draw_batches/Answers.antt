use Rattle.std.proofs.Common.{arith}
use Rattle.run_files.proofs.drawing.draw_batches.Goals as goal

pub loop-batch-preserved : goal.loop-batch-preserved
loop-batch-preserved g c =
    let next = c.in_ok-drawn.ensures.next in
    rw c.with_batch.ensures.simulators (record {
      drawing = c.loop-batch.invariant.drawing;
      so_far = next.so_far;
      few = omega (arith, next.few, c.loop-batch.invariant.few);
      within = omega (arith, c.loop-batch-test.true);
    })

pub with_batch-requires-clause-drawing : goal.with_batch-requires-clause-drawing
with_batch-requires-clause-drawing g c κs lives = c.loop-batch.invariant.drawing

pub with_batch-requires-clause-so_far : goal.with_batch-requires-clause-so_far
with_batch-requires-clause-so_far g c κs lives = c.loop-batch.invariant.so_far

pub returns : goal.returns
returns g c =
    let i = c.loop-batch.invariant in
    record { obey = i.so_far.obey; few = omega (arith, i.few, i.within) }
