use Rattle.std.proofs.Common.{◌≡◌, map, take}
use Rattle.grade.specs.inner.Spread.{grade_at}
use Rattle.grade.proofs.spreading.spread.Given as goal

abbrev pub invariant-loop-i : goal.invariant-loop-i
invariant-loop-i l = l.grades.items ≡ map (grade_at l.by_class) (take l.i l.classes.numbers)
