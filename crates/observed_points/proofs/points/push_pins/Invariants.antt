use Rattle.std.proofs.Common.{◌≡◌, ◌++◌, map, take, get_or}
use Rattle.statement.specs.Netlists.{Definition, cells}
use Rattle.observed_points.proofs.points.push_pins.Given as goal

abbrev pub invariant-loop-cell : goal.invariant-loop-cell
invariant-loop-cell l = l.seen.items ≡ l.initial.seen.items ++ map (λ (d : Definition). get_or d.pins 0 0) (take l.cell-index (cells l.netlist))
