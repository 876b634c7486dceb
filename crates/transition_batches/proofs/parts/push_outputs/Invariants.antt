use Rattle.std.proofs.Common.{◌≡◌, ◌++◌, map, take}
use Rattle.statement.specs.declared.lines.Line.TheVariants.{Out}
use Rattle.transition_batches.specs.Batches.{read_late}
use Rattle.transition_batches.proofs.parts.push_outputs.Given as goal

abbrev pub invariant-loop-y : goal.invariant-loop-y
invariant-loop-y l = l.outputs.items ≡ l.initial.outputs.items ++ map (λ y. read_late l.netlist 0 l.faults (Out y) y) (take l.y-index l.netlist.outputs)
