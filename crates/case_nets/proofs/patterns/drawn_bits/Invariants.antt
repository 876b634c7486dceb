use Rattle.std.proofs.Common.{◌≡◌, length}
use Rattle.case_nets.proofs.patterns.drawn_bits.Given as goal

abbrev pub invariant-loop-done : goal.invariant-loop-done
invariant-loop-done l = length l.bits.items ≡ l._done
