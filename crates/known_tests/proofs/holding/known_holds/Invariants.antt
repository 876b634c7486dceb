use Rattle.std.proofs.Common.{◌≡◌, take}
use Rattle.unknown_inputs.specs.Unknowns.{known_part}
use Rattle.known_tests.proofs.holding.known_holds.Given as goal

abbrev pub invariant-loop-input : goal.invariant-loop-input
invariant-loop-input l = l.known.items ≡ known_part l.unknown (take l.input l.holds)
