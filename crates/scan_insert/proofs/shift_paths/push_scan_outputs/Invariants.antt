use Rattle.std.proofs.Common.{◌≡◌, ◌++◌, ◌+◌, ◌-◌, ℕ, List, map, length, drop}
use Rattle.std.specs.List.{zip}
use Rattle.statement.specs.Runs.{numbers_from}
use Rattle.scan_insert.specs.Scan.{show_last}
use Rattle.scan_insert.specs.Scanned.{last_of}
use Rattle.scan_insert.specs.inner.Made.{held_at}
use Rattle.scan_insert.proofs.shift_paths.push_scan_outputs.Given as goal

abbrev pub invariant-loop-c : goal.invariant-loop-c
invariant-loop-c l =
    let shown : List (List ℕ) → List ℕ = map (λ (chain : List ℕ). held_at l.sites (last_of chain)) in
    l.made.items ++ map show_last (zip (numbers_from (l.first_output + l.c) (length l.chains - l.c)) (shown (drop l.c l.chains)))
    ≡ l.initial.made.items ++ map show_last (zip (numbers_from l.first_output (length l.chains)) (shown l.chains))
