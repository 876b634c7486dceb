use Rattle.std.proofs.Common.{◌≡◌, ◌++◌, map, decimal}
use Rattle.statement.specs.Runs.{numbers_from}
use Rattle.scan_insert.proofs.signal_names.push_numbered.Given as goal

abbrev pub invariant-loop-c : goal.invariant-loop-c
invariant-loop-c l = l.names ≡ l.initial.names ++ map (λ c. l.prefix ++ decimal c) (numbers_from 0 l.c)
