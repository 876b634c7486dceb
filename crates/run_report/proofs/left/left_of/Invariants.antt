use Rattle.std.proofs.Common.{◌≡◌, take}
use Rattle.run_report.specs.Outcomes.{left_from}
use Rattle.run_report.proofs.left.left_of.Given as goal

abbrev pub invariant-loop-class : goal.invariant-loop-class
invariant-loop-class l = l.left.items ≡ left_from l.classes.numbers l.lines 0 (take l.class l.classes.representatives)
