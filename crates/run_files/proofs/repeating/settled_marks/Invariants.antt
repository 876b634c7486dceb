use Rattle.std.proofs.Common.{◌≡◌, length}
use Rattle.run_files.proofs.repeating.settled_marks.Given as goal

abbrev pub invariant-loop-count : goal.invariant-loop-count
invariant-loop-count l = length l.marks.items ≡ l.count-index
