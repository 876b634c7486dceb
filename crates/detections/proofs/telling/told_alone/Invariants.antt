use Rattle.std.proofs.Common.{◌≡◌}
use Rattle.detections.specs.inner.Telling.{TellsFirst}
use Rattle.detections.proofs.telling.told_alone.Given as goal

abbrev pub invariant-loop-j : goal.invariant-loop-j
invariant-loop-j l = TellsFirst l.initial.events.netlist l.patterns l.fault l.j l.word × (l.events ≡ l.initial.events)
