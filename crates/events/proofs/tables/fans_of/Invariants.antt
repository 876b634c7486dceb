use Rattle.events.specs.inner.Placing.{AreFansUpTo}
use Rattle.events.proofs.tables.fans_of.Given as goal

abbrev pub invariant-loop-x : goal.invariant-loop-x
invariant-loop-x l = AreFansUpTo l.netlist l.places l.bound l.fan.items l.ends.items l.x
