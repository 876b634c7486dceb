use Rattle.std.proofs.Common.{◌≡◌}
use Rattle.grade.specs.inner.ByPatterns.{AreGradedPart}
use Rattle.grade.proofs.by_patterns.grade_batch.Given as goal

abbrev pub invariant-loop-i : goal.invariant-loop-i
invariant-loop-i l = AreGradedPart l.asked l.start l.i l.grades.items × (l.events ≡ l.initial.events)
