use Rattle.std.proofs.Common.{◌≡◌, ◌++◌}
use Rattle.statement.specs.Runs.{numbers_from}
use Rattle.scan_insert.proofs.parts.push_numbers.Given as goal

abbrev pub invariant-loop-c : goal.invariant-loop-c
invariant-loop-c l = l.signals.items ≡ l.initial.signals.items ++ numbers_from l.first l.c
