use Rattle.std.proofs.Common.{◌≡◌, ◌++◌, map, take}
use Rattle.unknown_inputs.specs.Opened.{reads_itself}
use Rattle.unknown_inputs.proofs.parts.push_cells.Given as goal

abbrev pub invariant-loop-x : goal.invariant-loop-x
invariant-loop-x l = l.made.items ≡ l.initial.made.items ++ map reads_itself (take l.x-index l.signals)
