use Rattle.std.proofs.Common.{◌≡◌, length}
use Rattle.statement.specs.Netlists.{Netlist}
use Rattle.netlist.specs.Conditions.{IsNumbered}
use Rattle.netlist.specs.inner.Sorting.{HasRoom, IsStarted}
use Rattle.netlist.proofs.order.Placing.place_ties.Given as goal

abbrev pub invariant-loop-signal : goal.invariant-loop-signal
invariant-loop-signal l = record {
  room : HasRoom l.self;
  size : length l.self.ranks.items ≡ length l.initial.self.ranks.items;
  started : (n : Netlist) → IsNumbered n → IsStarted n 0 l.initial.self → IsStarted n l.signal l.self;
}
