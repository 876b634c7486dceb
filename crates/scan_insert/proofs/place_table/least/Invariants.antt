use Rattle.std.proofs.Common.{ℕ, ◌<◌, ◌≤◌, get_or}
use Rattle.scan_insert.proofs.place_table.least.Given as goal

abbrev pub invariant-loop-cell : goal.invariant-loop-cell
invariant-loop-cell l = (k : ℕ) (d : ℕ) → k < l.cell-index → l.least ≤ get_or l.cells k d
