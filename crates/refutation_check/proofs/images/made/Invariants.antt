use Rattle.std.proofs.Common.{◌≡◌, map, drop}
use Rattle.statement.specs.Values.{on_pins}
use Rattle.refutation.specs.Refutations.{told_of}
use Rattle.refutation_check.specs.inner.Images.{gathered, set_rule}
use Rattle.refutation_check.proofs.images.made.Given as goal

abbrev pub invariant-loop-k : goal.invariant-loop-k
invariant-loop-k l = l.pairs ≡ gathered l.gate.kind (on_pins (set_rule l.fault) l.gate.id l.k (drop l.k (map (told_of l.told) l.gate.pins)))
