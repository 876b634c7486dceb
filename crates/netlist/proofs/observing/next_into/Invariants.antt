use Rattle.std.proofs.Common.{◌≡◌, take}
use Rattle.std.specs.List.{flat_map}
use Rattle.statement.specs.Netlists.{cells}
use Rattle.netlist.specs.Settled.{at}
use Rattle.statement.specs.Values.{pins_of}
use Rattle.netlist.proofs.observing.next_into.Given as goal

abbrev pub invariant-loop-cell : goal.invariant-loop-cell
invariant-loop-cell g l = (d : g.row.L-Value.Denot) → l.found.items ≡ flat_map (pins_of (g.L.Logic.rule l.logic) (at l.values d)) (take l.cell-index (cells l.netlist))
