use Rattle.std.proofs.Common.{◌*◌, length, arith}
use Rattle.grade.proofs.Graded.{fewer_graded}
use Rattle.grade.proofs.by_patterns.grade_parts.Goals as goal

pub returns : goal.returns
returns c =
    fewer_graded c.args.asked.now (length c.args.asked.now.latest.now) (c.loop-batch.batch * 64) c.loop-batch.grades.items (omega arith) c.loop-batch.invariant.graded
