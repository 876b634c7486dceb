use Rattle.std.specs.List.{All}
use Rattle.redundancy_cert.specs.Trees.{DecidesSignal}
use Rattle.netlist_calls.proofs.trees.deep.Given as goal

abbrev pub invariant-loop-k : goal.invariant-loop-k
invariant-loop-k l = All (DecidesSignal l.netlist) l.nodes.items
