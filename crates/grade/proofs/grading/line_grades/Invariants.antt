use Rattle.std.proofs.Common.{◌*◌, take}
use Rattle.std.specs.List.{AllZip}
use Rattle.grade.specs.Grades.{IsGraded}
use Rattle.grade.proofs.grading.line_grades.Given as goal

abbrev pub invariant-loop-batch : goal.invariant-loop-batch
invariant-loop-batch g l = AllZip (λ f grade. IsGraded l.core f l.vectors grade) (take (l.batch * 512) l.lines) l.all.items
