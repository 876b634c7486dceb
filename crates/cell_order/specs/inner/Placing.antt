-- What stands in the place of a definition.
use Rattle.std.specs.Prelude.{ℕ, ◌≡◌, List, ◌∷◌}
use Rattle.std.specs.List.{All, Contains}
use Rattle.statement.specs.Netlists.{Definition, Netlist}
use Rattle.scan_insert.specs.Scanned.{cell_ids}
use Rattle.bench_text.specs.Written.{IsWritable}
use Rattle.cell_order.specs.Ordered.{definitions_at, in_places}

-- This stands in the place of d, and the others are left for those behind it.
pub record IsNextOf (n : Netlist) (d : Definition) (next : List ℕ) (here : Definition) (others : List ℕ) : Type 0 where
  pub placed : (behind : List Definition) → in_places (d ∷ behind) (definitions_at n next) ≡ here ∷ in_places behind (definitions_at n others)
  pub writable : IsWritable n here
  pub left : All (Contains (cell_ids n)) others
