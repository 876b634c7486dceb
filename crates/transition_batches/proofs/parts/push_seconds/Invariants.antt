use Rattle.std.proofs.Common.{◌≡◌, ◌++◌, map, take}
use Rattle.transition_batches.specs.Batches.{in_second_of}
use Rattle.transition_batches.proofs.parts.push_seconds.Given as goal

abbrev pub invariant-loop-definition : goal.invariant-loop-definition
invariant-loop-definition l = l.made.items ≡ l.initial.made.items ++ map (in_second_of l.netlist l.faults) (take l.definition-index l.netlist.definitions)
