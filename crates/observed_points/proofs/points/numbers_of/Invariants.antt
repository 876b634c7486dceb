use Rattle.observed_points.specs.Points.{AreCellPoints}
use Rattle.observed_points.proofs.points.numbers_of.Given as goal

abbrev pub invariant-loop-j : goal.invariant-loop-j
invariant-loop-j l = AreCellPoints l.netlist l.numbers.items l.j
