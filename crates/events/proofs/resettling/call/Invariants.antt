use Rattle.std.proofs.Common.{take}
use Rattle.events.specs.inner.Placing.{Marks}
use Rattle.events.proofs.resettling.call.Given as goal

abbrev pub invariant-loop-place : goal.invariant-loop-place
invariant-loop-place l = Marks (take l.place-index l.row) l.initial.agenda l.agenda
