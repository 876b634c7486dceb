use Rattle.std.proofs.Common.{take, set}
use Rattle.events.specs.inner.Running.{CallsTurned}
use Rattle.events.proofs.resettling.call_each.Given as goal

abbrev pub invariant-loop-line : goal.invariant-loop-line
invariant-loop-line g l =
    CallsTurned (g.L.Logic.rule l.rule) l.netlist (take l.line-index l.lines) l.tables.places.items l.values (set l.values l.id l.value) l.initial.agenda l.agenda
