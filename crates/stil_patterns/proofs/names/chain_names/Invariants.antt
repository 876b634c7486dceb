use Rattle.std.proofs.Common.{◌≡◌, map, take}
use Rattle.statement.specs.Netlists.{name_of}
use Rattle.stil_patterns.proofs.names.chain_names.Given as goal

abbrev pub invariant-loop-c : goal.invariant-loop-c
invariant-loop-c l = l.all.items ≡ map (map (name_of l.netlist)) (take l.c l.chains)
