use Rattle.std.proofs.Common.{◌≡◌, take}
use Rattle.good_slow_files.specs.GoodSlowFiles.{slow_left_of}
use Rattle.slow_check.proofs.leftovers.left_of.Given as goal

abbrev pub invariant-loop-place : goal.invariant-loop-place
invariant-loop-place l = l.left.items ≡ slow_left_of (take l.place l.faults) (take l.place l.lines)
