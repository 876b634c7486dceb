use Rattle.std.proofs.Common.{take}
use Rattle.std.specs.List.{All}
use Rattle.statement.specs.declared.lines.Fault.{Fault}
use Rattle.transition_batches.specs.Batches.{AreApart}
use Rattle.transition.proofs.batching.is_apart.Given as goal

abbrev pub invariant-loop-other : goal.invariant-loop-other
invariant-loop-other l = All (λ (f : Fault). AreApart l.netlist f l.fault) (take l.other-index l.taken)
