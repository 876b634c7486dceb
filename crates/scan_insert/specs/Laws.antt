-- What scan insertion changes, and that it changes nothing else.
use Rattle.std.specs.Prelude.{ℕ, ◌≡◌, ◌-◌, ◌<◌, Bool, true, false, not, cond, List, [], ◌∷◌, ◌++◌, length, take, drop, slice_index_or, Option}
use Rattle.std.specs.Bool.{Decides}
use Rattle.statement.specs.declared.kinds.Kind.TheVariants.{And, Or, Not, Buff}
use Rattle.statement.specs.declared.lines.Fault.{Fault}
use Rattle.statement.specs.Netlists.{Netlist, cells}
use Rattle.netlist.specs.Conditions.{IsSound}
use Rattle.statement.specs.Values.{Table, Settles, bit_table, bits, with_fault, outs, next}
use Rattle.netlist.specs.Lines.{IsFaultOf}
use Rattle.netlist.specs.Designs.{IsDesign}
use Rattle.scan_insert.specs.Scanned.{AreChainsOf, sites_of, scanned_of, fault_at}

-- what the cells hold after one shift: the first cell of each chain has the value of its scan input, and each other cell that of the cell before
abbrev pub shifted : {V : Type 0} → List (List ℕ) → List V → List V → List V
shifted [] scan_inputs state = []
shifted (chain ∷ chains) [] state = []
shifted (chain ∷ chains) (v ∷ vs) state = take (length chain) (v ∷ state) ++ shifted chains vs (drop (length chain) state)

-- the value of each chain's last cell (blank where there is none)
abbrev pub last_values : {V : Type 0} → V → List (List ℕ) → List V → List V
last_values blank [] state = []
last_values blank (chain ∷ chains) state = slice_index_or state (length chain - 1) blank ∷ last_values blank chains (drop (length chain) state)

abbrev pub last_bits : List (List ℕ) → List Bool → List Bool
last_bits = last_values false

-- A table of values whose AND, OR and NOT make a multiplexer: AND with 1 and OR with 0 pass a value, AND with 0 blocks it, and NOT turns a bit. BUFF passes.
-- (A multiplexed scan cell: Bushnell and Agrawal, Essentials of Electronic Testing, 2000.)
pub record Multiplexes {V : Type 0} (table : Table V) : Type 0 where
  pub buff : (v : V) → table.gate Buff (v ∷ []) ≡ v
  pub inverts : (b : Bool) → table.gate Not (table.known b ∷ []) ≡ table.known (not b)
  pub and_one : (v : V) → table.gate And (v ∷ table.known true ∷ []) ≡ v
  pub and_zero : (v : V) → table.gate And (v ∷ table.known false ∷ []) ≡ table.known false
  pub or_zero : (v : V) → table.gate Or (v ∷ table.known false ∷ []) ≡ v
  pub zero_or : (v : V) → table.gate Or (table.known false ∷ v ∷ []) ≡ v

abbrev pub BitsMultiplex : Type 0
BitsMultiplex = Multiplexes bit_table

-- For each fault of the netlist or none, every input, state and scan input, and either value e of the scan enable, the scanned netlist with that
-- fault has the netlist's outputs with the fault, and at each scan output its chain's last cell. The cells take what the netlist's cells take
-- with the fault where the enable is 0 (scan off); where it is 1 (scan on) the chains shift. It is so for each table that multiplexes.
abbrev pub ScanBehavesBy : Type 0 → Type 0
ScanBehavesBy V =
    (same : V → V → Bool) → ((x y : V) → Decides (same x y) (x ≡ y)) → (table : Table V) → Multiplexes table
    → (blank : V) (n : Netlist) (chains : List (List ℕ)) (f : Option Fault) (inputs state scan_inputs : List V) (e : Bool) (a b : ℕ → V)
    → IsSound n → AreChainsOf n chains → 0 < length (cells n) → IsFaultOf n f
    → Settles (with_fault table f) n inputs state a
    → Settles (with_fault table (fault_at (sites_of n chains) f)) (scanned_of n chains) (inputs ++ table.known e ∷ scan_inputs) state b
    → (outs (with_fault table (fault_at (sites_of n chains) f)) (scanned_of n chains) b ≡ outs (with_fault table f) n a ++ last_values blank chains state)
    × (next (with_fault table (fault_at (sites_of n chains) f)) (scanned_of n chains) b
    ≡ cond e (shifted chains scan_inputs state) (next (with_fault table f) n a))

-- It is so for bits.
abbrev pub ScanBehaves : Type 0
ScanBehaves =
    (n : Netlist) (chains : List (List ℕ)) (f : Option Fault) (inputs state scan_inputs : List Bool) (e : Bool) (a b : ℕ → Bool)
    → IsSound n → AreChainsOf n chains → 0 < length (cells n) → IsFaultOf n f
    → Settles (bits f) n inputs state a
    → Settles (bits (fault_at (sites_of n chains) f)) (scanned_of n chains) (inputs ++ e ∷ scan_inputs) state b
    → (outs (bits (fault_at (sites_of n chains) f)) (scanned_of n chains) b ≡ outs (bits f) n a ++ last_bits chains state)
    × (next (bits (fault_at (sites_of n chains) f)) (scanned_of n chains) b ≡ cond e (shifted chains scan_inputs state) (next (bits f) n a))

-- A netlist without cells stays as it is, and so do its faults.
abbrev pub NothingAdded : Type 0
NothingAdded =
    (n : Netlist) (chains : List (List ℕ)) (f : Option Fault)
    → IsSound n → AreChainsOf n chains → length (cells n) ≡ 0 → IsFaultOf n f
    → (scanned_of n chains ≡ n) × (fault_at (sites_of n chains) f ≡ f)

-- The scanned netlist of a design is a netlist: it has no loop, and meets every other condition.
abbrev pub ScannedIsSound : Type 0
ScannedIsSound = (n : Netlist) (chains : List (List ℕ)) → IsSound n → IsDesign n → AreChainsOf n chains → IsSound (scanned_of n chains)
