use Rattle.std.proofs.Common.{take}
use Rattle.head_lines.specs.inner.Binding.{IsKeptBeside, AreHeads}
use Rattle.head_lines.proofs.room.end_at_all.Given as goal

abbrev pub invariant-loop-id : goal.invariant-loop-id
invariant-loop-id l =
    AreHeads l.initial.roles.items l.roles.items (take l.id-index l.ids) × IsKeptBeside l.initial.roles.items l.initial.changed.items l.roles.items l.changed.items
