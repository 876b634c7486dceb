use Rattle.std.proofs.Common.{◌≡◌, ◌+◌, ◌-◌, ◌≤◌, length, vec_capacity}
use Rattle.events.specs.inner.Running.{AreUnderway}
use Rattle.events.proofs.resettling.resettle.Given as goal

abbrev pub invariant-loop-place : goal.invariant-loop-place
invariant-loop-place g l =
    AreUnderway (g.L.Logic.rule l.rule) l.netlist l.tables.places.items l.initial.values.items l.values.items l.initial.agenda l.agenda l.initial.trail.items l.trail.items l.below
    × (length l.trail.items + (length l.tables.order.items - l.below) ≤ vec_capacity l.trail)
    × (vec_capacity l.trail ≡ vec_capacity l.initial.trail)

abbrev pub decreases-loop-place : goal.decreases-loop-place
decreases-loop-place g l = length l.tables.order.items - l.below
