use Rattle.std.proofs.Common.{◌≡◌, length, vec_len}
use Rattle.head_lines.specs.Rooms.{AreBeside}
use Rattle.head_lines.proofs.room.restore.Given as goal

abbrev pub invariant-loop-id : goal.invariant-loop-id
invariant-loop-id l = (length l.roles.items ≡ length l.base) × AreBeside l.base l.roles.items l.changed.items

abbrev pub decreases-loop-id : goal.decreases-loop-id
decreases-loop-id l = vec_len l.changed
