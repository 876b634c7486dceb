use Rattle.std.proofs.Common.{◌≡◌, take}
use Rattle.transition_tests.specs.Making.{cubes_in}
use Rattle.transition_tests.proofs.filling.cubes_of.Given as goal

abbrev pub invariant-loop-answer : goal.invariant-loop-answer
invariant-loop-answer l = l.cubes.items ≡ cubes_in (take l.answer-index l.found)
