use Rattle.std.proofs.Common.{◌≡◌, ◌++◌, map, take}
use Rattle.transition_batches.specs.Batches.{in_first_of}
use Rattle.transition_batches.proofs.parts.push_firsts.Given as goal

abbrev pub invariant-loop-definition : goal.invariant-loop-definition
invariant-loop-definition l = l.made.items ≡ l.initial.made.items ++ map (in_first_of l.netlist l.faults) (take l.definition-index l.netlist.definitions)
