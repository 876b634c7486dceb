use Rattle.std.proofs.Common.{◌≡◌, length, []}
use Rattle.statement.specs.Netlists.{Netlist}
use Rattle.netlist.specs.Conditions.{IsNumbered}
use Rattle.netlist.specs.inner.Sorting.{AreReaders, HasRoom, IsCounted, nothing, sources_below}
use Rattle.netlist.proofs.order.Placing.visit_sources.Given as goal

abbrev pub invariant-loop-signal : goal.invariant-loop-signal
invariant-loop-signal l = record {
  room : HasRoom l.self;
  size : length l.self.ranks.items ≡ length l.initial.self.ranks.items;
  counted : (n : Netlist) → IsNumbered n → AreReaders n l.table → IsCounted n nothing [] l.initial.self → IsCounted n (sources_below l.self.ranks.items l.signal) [] l.self;
}
