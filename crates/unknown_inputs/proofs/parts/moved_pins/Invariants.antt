use Rattle.std.proofs.Common.{◌≡◌, map, take}
use Rattle.unknown_inputs.specs.Opened.{number_by}
use Rattle.unknown_inputs.proofs.parts.moved_pins.Given as goal

abbrev pub invariant-loop-x : goal.invariant-loop-x
invariant-loop-x l = l.moved.items ≡ map (number_by l.numbers) (take l.x-index l.pins)
