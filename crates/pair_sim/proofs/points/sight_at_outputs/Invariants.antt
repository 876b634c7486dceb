use Rattle.std.proofs.Common.{map, take}
use Rattle.statement.specs.declared.lines.Line.TheVariants.{Out}
use Rattle.netlist.specs.Settled.{at}
use Rattle.tri.specs.Labels.{on_line}
use Rattle.pair_sim.specs.inner.Levels.{blank}
use Rattle.pair_sim.specs.inner.Points.{IsSight}
use Rattle.pair_sim.proofs.points.sight_at_outputs.Given as goal

abbrev pub invariant-loop-k : goal.invariant-loop-k
invariant-loop-k l = IsSight (map (λ x. on_line l.fault (Out x) (at l.values blank x)) (take l.k l.netlist.outputs)) l.sight
