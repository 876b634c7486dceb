use Rattle.std.proofs.Common.{◌≤◌, ◌+◌, length}
use Rattle.fault_marks.specs.inner.Kept.{IsPartRead}
use Rattle.fault_marks.proofs.named_lines.named_lines.Given as goal

abbrev pub invariant-lines : goal.invariant-lines
invariant-lines l = IsPartRead l.names l.text l.rest l.found.keys l.number × (l.number + length l.rest ≤ length l.text)

abbrev pub decreases-lines : goal.decreases-lines
decreases-lines l = length l.rest
