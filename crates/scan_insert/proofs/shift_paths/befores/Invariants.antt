use Rattle.std.proofs.Common.{◌≡◌, ◌++◌, ◌+◌, drop}
use Rattle.scan_insert.specs.Scanned.{befores}
use Rattle.scan_insert.specs.inner.Made.{held_at}
use Rattle.scan_insert.proofs.shift_paths.befores.Given as goal

abbrev pub invariant-loop-c : goal.invariant-loop-c
invariant-loop-c l =
    l.befores.items ++ befores (held_at l.sites) (l.first_input + l.c) (drop l.c l.chains) ≡ befores (held_at l.sites) l.first_input l.chains
