use Rattle.std.proofs.Common.{◌*◌}
use Rattle.grade.specs.inner.ByPatterns.{IsBehind}
use Rattle.grade.proofs.by_patterns.grade_parts.Given as goal

abbrev pub invariant-loop-batch : goal.invariant-loop-batch
invariant-loop-batch l = IsBehind l.asked (l.batch * 64) l.events l.paths l.grades.items
