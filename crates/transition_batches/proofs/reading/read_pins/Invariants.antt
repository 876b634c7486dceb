use Rattle.std.proofs.Common.{◌≡◌, ◌++◌, drop}
use Rattle.transition_batches.specs.Batches.{late_pins}
use Rattle.transition_batches.proofs.reading.read_pins.Given as goal

abbrev pub invariant-loop-k : goal.invariant-loop-k
invariant-loop-k l = l.read_pins.items ++ late_pins l.netlist l.faults l.definition.id l.k (drop l.k l.definition.pins) ≡ late_pins l.netlist l.faults l.definition.id 0 l.definition.pins
