use Rattle.std.proofs.Common.{◌*◌, ◌≤◌, length}
use Rattle.run_files.specs.inner.Batches.{IsSoFar, MayDraw}
use Rattle.run_files.proofs.drawing.draw_batches.Given as goal

abbrev pub invariant-loop-batch : goal.invariant-loop-batch
invariant-loop-batch g l = record {
  drawing : MayDraw l.errand.core.now l.errand.holds.now l.cube l.simulators;
  so_far : IsSoFar l.errand.core.now l.errand.holds.now l.drawn.patterns.items l.drawn.left.items;
  few : length l.drawn.patterns.items ≤ l._batch * 64;
  within : l._batch ≤ 2048;
}
