use Rattle.std.proofs.Common.{◌≡◌, map, take}
use Rattle.run_files.specs.inner.Verdicts.{is_redundant}
use Rattle.run_files.proofs.compacting.redundant_marks.Given as goal

abbrev pub invariant-loop-verdict : goal.invariant-loop-verdict
invariant-loop-verdict l = l.marks.items ≡ map is_redundant (take l.verdict-index l.verdicts)
