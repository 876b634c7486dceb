use Rattle.std.proofs.Common.{take}
use Rattle.std.specs.List.{flat_map}
use Rattle.statement.specs.Netlists.{cells}
use Rattle.netlist.specs.Settled.{at}
use Rattle.statement.specs.Values.{pins_of}
use Rattle.tri.specs.Labels.{Decisions, labels}
use Rattle.pair_sim.specs.inner.Levels.{blank}
use Rattle.pair_sim.specs.inner.Points.{IsSight}
use Rattle.pair_sim.proofs.points.sight_at_cells.Given as goal

abbrev pub invariant-loop-k : goal.invariant-loop-k
invariant-loop-k l = (path : Decisions) → IsSight (flat_map (pins_of (labels l.fault path) (at l.values blank)) (take l.k (cells l.netlist))) l.sight
