use Rattle.std.proofs.Common.{◌≡◌, ◌≤◌, is_some, length, take}
use Rattle.std.specs.List.{filter}
use Rattle.test_commands.proofs.told_lines.fail_count.Given as goal

abbrev pub invariant-loop-place : goal.invariant-loop-place
invariant-loop-place l = (l.count ≡ length (filter is_some (take l.place-index l.told))) × (l.count ≤ l.place-index)
