-- The scanned netlist of a netlist and its chains.
use Rattle.std.specs.Prelude.{ℕ, ◌≡◌, ◌+◌, ◌-◌, ◌*◌, ◌<◌, ◌==◌, if◌then◌else◌, cond, List, [], ◌∷◌, ◌++◌, map, length, take, slice_index, slice_index_or, Option, Some, None}
use Rattle.std.specs.List.{zip}
use Rattle.statement.specs.declared.lines.Line.{Line}
use Rattle.statement.specs.declared.lines.Line.TheVariants.{Stem, Pin, Out}
use Rattle.statement.specs.declared.lines.Fault.{Fault}
use Rattle.statement.specs.Netlists.{Definition, Netlist, is_cell, cells, signals}
use Rattle.scan_insert.specs.Chains.{chains_of}
use Rattle.statement.specs.Tests.{cells_of}
use Rattle.scan_insert.specs.declared.sites.Site.{Site}
use Rattle.statement.specs.Runs.{numbers_from}
use Rattle.scan_insert.specs.Names.{names_of}
use Rattle.scan_insert.specs.Scan.{Naming, scanned}

abbrev pub cell_ids : Netlist → List ℕ
cell_ids n = map (λ (d : Definition). d.id) (cells n)

-- chains of the netlist's cells
pub record AreChainsOf (n : Netlist) (chains : List (List ℕ)) : Type 0 where
  pub asked : ℕ
  pub some : 0 < asked
  pub are : chains ≡ chains_of (cell_ids n) asked

-- a signal that is what it was
abbrev pub own_site : ℕ → Site
own_site x = record { stem = x; pins = x }

-- Each definition takes the next number, and a cell five: its stem is the last of them, and its pins are at the first.
abbrev pub sites_from : ℕ → List Definition → List Site
sites_from next [] = []
sites_from next (d ∷ ds) = cond (is_cell d) (record { stem = next + 4; pins = next } ∷ sites_from (next + 5) ds) (own_site next ∷ sites_from (next + 1) ds)

-- The numbers of the signals that are added: behind the inputs come the enable and the scan inputs,
-- then its complement, the definitions, and the scan outputs.
abbrev pub first_definition : Netlist → ℕ → ℕ
first_definition n chains = length n.inputs + chains + 2

abbrev pub first_scan_out : Netlist → ℕ → ℕ
first_scan_out n chains = first_definition n chains + length n.definitions + 4 * length (cells n)

-- where each signal of the netlist stands
abbrev pub sites_of : Netlist → List (List ℕ) → List Site
sites_of n [] = map own_site (signals n)
sites_of n (chain ∷ chains) = map own_site n.inputs ++ sites_from (first_definition n (length (chain ∷ chains))) n.definitions

abbrev pub site : List Site → ℕ → Site
site sites x = slice_index_or sites x (own_site 0)

-- what each cell takes when it shifts, chain by chain: what the cell before it holds, or the chain's scan input
abbrev pub befores : (ℕ → ℕ) → ℕ → List (List ℕ) → List ℕ
befores held input [] = []
befores held input (chain ∷ chains) = take (length chain) (input ∷ map held chain) ++ befores held (input + 1) chains

-- what stands in the second list where x stands in the first
abbrev pub beside : List ℕ → List ℕ → ℕ → ℕ
beside [] vs x = 0
beside (y ∷ ys) [] x = 0
beside (y ∷ ys) (v ∷ vs) x = if y == x then v else beside ys vs x

abbrev pub last_of : List ℕ → ℕ
last_of xs = slice_index xs (length xs - 1)

abbrev pub naming_of : Netlist → List (List ℕ) → Naming
naming_of n chains =
    let sites = sites_of n chains in
    let count = length chains in
    let held : ℕ → ℕ = λ q. (site sites q).pins + 3 in
    record {
      names = names_of n count;
      stem = λ x. (site sites x).stem;
      pins = λ x. (site sites x).pins;
      enable = length n.inputs;
      enable_not = length n.inputs + 1 + count;
      scan_in = numbers_from (length n.inputs + 1) count;
      scan_out = zip (numbers_from (first_scan_out n count) count) (map (λ chain. held (last_of chain)) chains);
      shifted = λ q. (site sites q).pins + 1;
      chosen = λ q. (site sites q).pins + 2;
      held = held;
      before = beside (cells_of chains) (befores held (length n.inputs + 1) chains);
    }

-- with no cells, nothing is added
abbrev pub scanned_of : Netlist → List (List ℕ) → Netlist
scanned_of n [] = n
scanned_of n (chain ∷ chains) = scanned (naming_of n (chain ∷ chains)) n

-- what insertion makes: the scanned netlist, and where it has the signals of the original
pub record Insertion : Type 0 where
  pub netlist : Netlist
  pub sites : List Site

abbrev pub insertion_of : Netlist → List (List ℕ) → Insertion
insertion_of n chains = record { netlist = scanned_of n chains; sites = sites_of n chains }

-- the line that stands for a line of the original: a cell's pin is at its first new gate
abbrev pub line_at : List Site → Line → Line
line_at sites (Stem x) = Stem (site sites x).stem
line_at sites (Pin z k) = Pin (site sites z).pins k
line_at sites (Out x) = Out (site sites x).stem

abbrev pub fault_at : List Site → Option Fault → Option Fault
fault_at sites None = None
fault_at sites (Some f) = Some (record { line = line_at sites f.line; value = f.value })
