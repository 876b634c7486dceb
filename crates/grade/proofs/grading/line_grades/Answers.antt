use Rattle.std.proofs.Common.{◌++◌, ◌∙◌, ap}
use Rattle.chain_test.proofs.Batches.{batch_more}
use Rattle.grade.specs.Grades.{IsGraded}
use Rattle.grade.proofs.grading.line_grades.Goals as goal

pub loop-batch-preserved : goal.loop-batch-preserved
loop-batch-preserved g c =
    let old = c.loop-batch.all.items in
    batch_more (λ f grade. IsGraded c.args.core.now f c.args.vectors.now grade) c.args.lines.now old c.in_ok-grades.grades.items c.extend_from_slice.new.self.items c.loop-batch.batch
    c.batch_at-own.result.now c.batch_at-own.ensures (c.in_ok-extend_from_slice.ensures.items ∙ ap (λ gs. old ++ gs) c.deref.ensures.value) c.loop-batch.invariant c.in_ok-grades.ensures
