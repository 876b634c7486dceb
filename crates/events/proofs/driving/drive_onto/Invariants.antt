use Rattle.events.specs.inner.Driving.{AreDriven}
use Rattle.events.proofs.driving.drive_onto.Given as goal

abbrev pub invariant-loop-k : goal.invariant-loop-k
invariant-loop-k g l =
    AreDriven (g.L.Logic.rule l.rule) l.netlist l.tables.places.items l.ids l.driven l.initial.values.items l.values.items l.initial.agenda l.agenda l.k
