use Rattle.netlist.specs.inner.Placed.{ArePlacesUpTo}
use Rattle.netlist.proofs.schedules.places_of.Given as goal

abbrev pub invariant-loop-k : goal.invariant-loop-k
invariant-loop-k l = ArePlacesUpTo l.order l.places.items l.count l.k
