use Rattle.std.proofs.Common.{◌≡◌, ◌+◌, ◌≤◌, length, vec_capacity}
use Rattle.events.specs.inner.Running.{Touches}
use Rattle.events.proofs.resettling.touch_each.Given as goal

abbrev pub invariant-loop-k : goal.invariant-loop-k
invariant-loop-k g l =
    Touches (g.L.Logic.rule l.rule) l.netlist l.tables.places.items l.ids l.initial.values.items l.values.items l.initial.agenda l.agenda l.initial.trail.items l.trail.items l.k
    × (vec_capacity l.trail ≡ vec_capacity l.initial.trail)
    × (length l.trail.items ≤ length l.initial.trail.items + l.k)
