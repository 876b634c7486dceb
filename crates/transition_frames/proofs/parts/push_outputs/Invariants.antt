use Rattle.std.proofs.Common.{◌≡◌, ◌++◌, map, take}
use Rattle.statement.specs.declared.lines.Line.TheVariants.{Out}
use Rattle.transition_frames.specs.Frames.{read}
use Rattle.transition_frames.proofs.parts.push_outputs.Given as goal

abbrev pub invariant-loop-y : goal.invariant-loop-y
invariant-loop-y l = l.outputs.items ≡ l.initial.outputs.items ++ map (λ y. read l.netlist l.fault (Out y) y) (take l.y-index l.netlist.outputs)
