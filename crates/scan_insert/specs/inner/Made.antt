-- Parts of the scanned netlist as they are made.
use Rattle.std.specs.Prelude.{ℕ, ◌≡◌, ◌+◌, ◌<◌, ◌≤◌, cond, List, [], ◌∷◌, ◌++◌, map, drop, length, slice_index}
use Rattle.std.specs.List.{All}
use Rattle.statement.specs.Netlists.{Definition, Netlist, is_cell, signals}
use Rattle.netlist.specs.Netlist.{define}
use Rattle.statement.specs.Tests.{cells_of}
use Rattle.scan_insert.specs.declared.sites.Site.{Site}
use Rattle.scan_insert.specs.Scan.{Naming, scan_cell}
use Rattle.scan_insert.specs.Scanned.{site, cell_ids, first_scan_out}

-- what has the stem, and what holds the bit of a cell
abbrev pub stem_at : List Site → ℕ → ℕ
stem_at sites x = (site sites x).stem

abbrev pub held_at : List Site → ℕ → ℕ
held_at sites q = (site sites q).pins + 3

-- the naming of one cell's gates, which takes this signal when it shifts
abbrev pub naming_at : List Site → ℕ → ℕ → ℕ → Naming
naming_at sites enable enable_not before = record {
  names = [];
  stem = stem_at sites;
  pins = λ q. (site sites q).pins;
  enable = enable;
  enable_not = enable_not;
  scan_in = [];
  scan_out = [];
  shifted = λ q. (site sites q).pins + 1;
  chosen = λ q. (site sites q).pins + 2;
  held = held_at sites;
  before = λ q. before;
}

-- the definitions in their places, where each cell takes the next of these signals when it shifts
abbrev pub scan_definitions : List Site → ℕ → ℕ → List ℕ → List Definition → List Definition
scan_definitions sites enable enable_not befores [] = []
scan_definitions sites enable enable_not befores (d ∷ ds) = cond (is_cell d)
    (scan_cell (naming_at sites enable enable_not (slice_index befores 0)) d ++ scan_definitions sites enable enable_not (drop 1 befores) ds)
    (define (stem_at sites d.id) d.kind (map (stem_at sites) d.pins) ∷ scan_definitions sites enable enable_not befores ds)

-- all is known of which the scanned netlist is made, and its numbers are low
pub record IsReady (n : Netlist) (chains : List (List ℕ)) (sites : List Site) : Type 0 where
  pub size : length sites ≡ length (signals n)
  pub small : length (signals n) ≤ 1000000
  pub low : All (λ (t : Site). t.pins ≤ 7000000) sites
  pub room : first_scan_out n (length chains) + length chains ≤ 8000000
  pub all : cells_of chains ≡ cell_ids n
  pub filled : All (λ (chain : List ℕ). 0 < length chain) chains
  pub within : All (λ x. x < length sites) (cells_of chains)
