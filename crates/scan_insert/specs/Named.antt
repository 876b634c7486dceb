-- The scanned netlist by the names of its signals.
use Rattle.std.specs.Prelude.{ℕ, ◌≡◌, ◌≢◌, ◌+◌, ◌<◌, ◌≤◌, cond, List, [], ◌∷◌, ◌++◌, map, length, take, drop, slice_index_or, codes, decimal}
use Rattle.std.specs.List.{All, AllPairs, Contains}
use Rattle.statement.specs.declared.kinds.Kind.{Kind}
use Rattle.statement.specs.declared.kinds.Kind.TheVariants.{And, Or, Not, Buff, Dff}
use Rattle.statement.specs.Netlists.{Definition, Netlist, is_cell, cells, gates, name_of, signals}
use Rattle.netlist.specs.Conditions.{IsSound}
use Rattle.netlist.specs.Designs.{IsDesign}
use Rattle.statement.specs.Runs.{numbers_from, output_name}
use Rattle.scan_insert.specs.Scanned.{AreChainsOf, last_of, site, sites_of, scanned_of}

-- ---- equations by names

-- `name = KIND(pins)`
pub record Equation : Type 0 where
  pub name : List ℕ
  pub kind : Kind
  pub pins : List (List ℕ)

abbrev pub named_equation : List ℕ → Kind → List (List ℕ) → Equation
named_equation name kind pins = record { name = name; kind = kind; pins = pins }

-- the equation of a definition
abbrev pub named : Netlist → Definition → Equation
named n d = named_equation (name_of n d.id) d.kind (map (name_of n) d.pins)

-- what each cell takes when it shifts, chain by chain: the first one its chain's scan input, and each other one what the cell before it holds
abbrev pub names_before : Netlist → ℕ → List (List ℕ) → List (List ℕ)
names_before n c [] = []
names_before n c (chain ∷ chains) =
    take (length chain) ((codes "SC__si" ++ decimal c) ∷ map (λ q. codes "SC__s_" ++ name_of n q) chain) ++ names_before n (c + 1) chains

-- a scan cell in the place of `name = DFF(read)`
abbrev pub cell_equations : List ℕ → List (List ℕ) → List ℕ → List Equation
cell_equations name read before =
    named_equation (codes "SC__a_" ++ name) And (read ++ codes "SC__nse" ∷ [])
    ∷ named_equation (codes "SC__b_" ++ name) And (before ∷ codes "SC__se" ∷ [])
    ∷ named_equation (codes "SC__d_" ++ name) Or ((codes "SC__a_" ++ name) ∷ (codes "SC__b_" ++ name) ∷ [])
    ∷ named_equation (codes "SC__s_" ++ name) Dff ((codes "SC__d_" ++ name) ∷ [])
    ∷ named_equation name Buff ((codes "SC__s_" ++ name) ∷ [])
    ∷ []

-- every definition in its place, a cell as a scan cell that takes the next of these names when it shifts
abbrev pub scan_equations : Netlist → List (List ℕ) → List Definition → List Equation
scan_equations n befores [] = []
scan_equations n befores (d ∷ ds) = cond (is_cell d)
    (cell_equations (name_of n d.id) (map (name_of n) d.pins) (slice_index_or befores 0 []) ++ scan_equations n (drop 1 befores) ds)
    (named n d ∷ scan_equations n befores ds)

-- each scan output shows what its chain's last cell holds
abbrev pub show_equations : Netlist → ℕ → List (List ℕ) → List Equation
show_equations n c [] = []
show_equations n c (chain ∷ chains) = named_equation (codes "SC__so" ++ decimal c) Buff ((codes "SC__s_" ++ name_of n (last_of chain)) ∷ []) ∷ show_equations n (c + 1) chains

pub record HasScanNames (n : Netlist) (chains : List (List ℕ)) (s : Netlist) : Type 0 where
  pub inputs : map (name_of s) s.inputs ≡ map (name_of n) n.inputs ++ codes "SC__se" ∷ map (λ c. codes "SC__si" ++ decimal c) (numbers_from 0 (length chains))
  pub outputs : map (name_of s) s.outputs ≡ map (name_of n) n.outputs ++ map (λ c. codes "SC__so" ++ decimal c) (numbers_from 0 (length chains))
  pub definitions : map (named s) s.definitions
      ≡ named_equation (codes "SC__nse") Not (codes "SC__se" ∷ []) ∷ scan_equations n (names_before n 0 chains) n.definitions ++ show_equations n 0 chains

-- The scanned netlist of a netlist with cells, in names: five equations a cell, its complement of the enable and its scan outputs; the others stay.
abbrev pub ScannedByNames : Type 0
ScannedByNames = (n : Netlist) (chains : List (List ℕ)) → IsSound n → AreChainsOf n chains → 0 < length (cells n) → HasScanNames n chains (scanned_of n chains)

-- ---- names at sites

-- A line's site has the line's own name, but a cell's pin that of the gate which lets the captured bit through.
pub record HasSiteNames (n : Netlist) (chains : List (List ℕ)) : Type 0 where
  pub stems : (x : ℕ) → Contains (signals n) x → name_of (scanned_of n chains) (site (sites_of n chains) x).stem ≡ name_of n x
  pub gate_pins : (d : Definition) → Contains (gates n) d → name_of (scanned_of n chains) (site (sites_of n chains) d.id).pins ≡ name_of n d.id
  pub cell_pins : (d : Definition) → Contains (cells n) d → name_of (scanned_of n chains) (site (sites_of n chains) d.id).pins ≡ codes "SC__a_" ++ name_of n d.id

abbrev pub SitesHaveNames : Type 0
SitesHaveNames = (n : Netlist) (chains : List (List ℕ)) → IsSound n → AreChainsOf n chains → HasSiteNames n chains

-- ---- names of pins at a tester

-- the inputs, the clock and the outputs
abbrev pub tester_names : Netlist → List (List ℕ)
tester_names s = map (name_of s) s.inputs ++ codes "SC__ck" ∷ map (output_name s) s.outputs

-- The pins of a scanned design have different names, of 1 to 261 bytes.
pub record HasTesterNames (s : Netlist) : Type 0 where
  pub distinct : AllPairs (λ x y. x ≢ y) (tester_names s)
  pub some : All (λ name. 0 < length name) (tester_names s)
  pub short : All (λ name. length name ≤ 261) (tester_names s)

abbrev pub TesterNamesDiffer : Type 0
TesterNamesDiffer = (n : Netlist) (chains : List (List ℕ)) → IsSound n → IsDesign n → AreChainsOf n chains → HasTesterNames (scanned_of n chains)
