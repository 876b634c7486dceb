use Rattle.std.proofs.Common.{◌≢◌, ◌<◌, ℕ}
use Rattle.statement.specs.Netlists.{name_of}
use Rattle.fault_universe.proofs.signal_names.signal_named.Given as goal

abbrev pub invariant-loop-x : goal.invariant-loop-x
invariant-loop-x l = (k : ℕ) → k < l.x → name_of l.netlist k ≢ l.name
