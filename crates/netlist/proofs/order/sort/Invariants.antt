use Rattle.std.proofs.Common.{[], ◌+◌, ◌-◌, ◌≤◌, length}
use Rattle.statement.specs.Netlists.{signals}
use Rattle.netlist.specs.Conditions.{whole}
use Rattle.netlist.specs.inner.Sorting.{HasRoom, IsCounted, placed_below}
use Rattle.netlist.proofs.order.sort.Given as goal

abbrev pub invariant-loop-gate : goal.invariant-loop-gate
invariant-loop-gate l = record {
  room : HasRoom l.placing;
  within : l.cursor ≤ length l.placing.order.items;
  counted : IsCounted (whole l.parts) (placed_below l.placing.ranks.items (l.cursor + 2)) [] l.placing;
}

abbrev pub decreases-loop-gate : goal.decreases-loop-gate
decreases-loop-gate l = length (signals (whole l.parts)) - l.cursor
