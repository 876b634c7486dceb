use Rattle.std.proofs.Common.{◌≡◌, length}
use Rattle.statement.specs.Netlists.{cells}
use Rattle.netlist_calls.proofs.by_events.first_other.Given as goal

abbrev pub invariant-loop-change : goal.invariant-loop-change
invariant-loop-change l = (length l.driven.inputs.items ≡ length l.core.inputs) × (length l.driven.state.items ≡ length (cells l.core)) × (l.events.netlist ≡ l.core)
