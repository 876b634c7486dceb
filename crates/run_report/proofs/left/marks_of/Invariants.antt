use Rattle.std.proofs.Common.{length, take}
use Rattle.run_report.specs.inner.Marks.{AreMarked}
use Rattle.run_report.proofs.left.marks_of.Given as goal

abbrev pub invariant-loop-place : goal.invariant-loop-place
invariant-loop-place l = AreMarked (length l.classes.representatives) (take l.place l.classes.numbers) (take l.place l.lines) l.marks.items
