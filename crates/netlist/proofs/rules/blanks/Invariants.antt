use Rattle.std.proofs.Common.{◌≡◌, length}
use Rattle.netlist.proofs.rules.blanks.Given as goal

abbrev pub invariant-loop-done : goal.invariant-loop-done
invariant-loop-done g l = length l.values.items ≡ l._done
