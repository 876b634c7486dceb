use Rattle.std.proofs.Common.{◌≡◌, ◌++◌, ◌∷◌, map, take, get_or}
use Rattle.scan_insert.specs.inner.Made.{held_at}
use Rattle.scan_insert.proofs.shift_paths.push_befores.Given as goal

abbrev pub invariant-loop-cell : goal.invariant-loop-cell
invariant-loop-cell l = record {
  made : l.befores.items ≡ l.initial.befores.items ++ take l.cell-index (l.fn.input ∷ map (held_at l.sites) l.chain);
  last : l.before ≡ get_or (l.fn.input ∷ map (held_at l.sites) l.chain) l.cell-index 0;
}
