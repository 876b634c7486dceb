use Rattle.std.proofs.Common.{◌+◌}
use Rattle.head_lines.specs.inner.Binding.{IsKeptBeside, AreRolesBut, unbound, waiting}
use Rattle.head_lines.proofs.room.bind_from.Given as goal

abbrev pub invariant-loop-next : goal.invariant-loop-next
invariant-loop-next l =
    AreRolesBut l.fault l.netlist l.holds l.roles.items l.next × IsKeptBeside l.initial.roles.items l.initial.changed.items l.roles.items l.changed.items

abbrev pub decreases-loop-next : goal.decreases-loop-next
decreases-loop-next l = unbound l.roles.items + waiting l.next
