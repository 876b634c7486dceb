use Rattle.std.proofs.Common.{◌≡◌, take}
use Rattle.run_files.specs.Runs.{count_true}
use Rattle.run_files.proofs.asked.asked_count.Given as goal

abbrev pub invariant-loop-asked : goal.invariant-loop-asked
invariant-loop-asked l = l.count ≡ count_true (take l.asked-index l.faults)
