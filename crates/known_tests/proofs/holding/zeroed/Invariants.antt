use Rattle.known_tests.proofs.ZeroLemmas.{IsPartZeroed}
use Rattle.known_tests.proofs.holding.zeroed.Given as goal

abbrev pub invariant-loop-input : goal.invariant-loop-input
invariant-loop-input l = IsPartZeroed l.unknown l.holds l.input l.zeroed
