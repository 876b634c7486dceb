use Rattle.std.proofs.Common.{take}
use Rattle.std.specs.List.{All}
use Rattle.transition_batches.specs.Batches.{DecidesBelow}
use Rattle.transition_batches.proofs.answers.all_decide_below.Given as goal

abbrev pub invariant-loop-node : goal.invariant-loop-node
invariant-loop-node l = All (DecidesBelow l.bound) (take l.node-index l.nodes)
