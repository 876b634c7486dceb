use Rattle.file_check.specs.inner.Times.{AreOfClasses}
use Rattle.file_check.proofs.times.are_of_classes.Given as goal

abbrev pub invariant-loop-place : goal.invariant-loop-place
invariant-loop-place l = AreOfClasses l.classes l.times l.said l.place
