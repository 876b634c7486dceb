use Rattle.std.proofs.Common.{◌≡◌, ◌++◌}
use Rattle.net_gen.specs.Samples.{lettered_names}
use Rattle.net_gen.proofs.names.add_names.Given as goal

abbrev pub invariant-loop-number : goal.invariant-loop-number
invariant-loop-number l = l.names ≡ l.initial.names ++ lettered_names l.letter l.number
