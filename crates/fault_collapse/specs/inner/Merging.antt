-- Classes as they are merged and numbered (private to this crate).
use Rattle.std.specs.Prelude.{ℕ, Bool, ◌≡◌, ◌==◌, ◌<◌, ◌≤◌, if◌then◌else◌, List, length, slice_index, Some}
use Rattle.std.specs.List.{Contains, slice_get}
use Rattle.statement.specs.declared.lines.Line.{Line}
use Rattle.statement.specs.declared.lines.Line.TheVariants.{Stem}
use Rattle.statement.specs.declared.lines.Fault.{Fault}
use Rattle.statement.specs.Netlists.{Definition, Netlist}
use Rattle.fault_universe.specs.Universe.{all_lines}
use Rattle.statement.specs.Faults.{universe_of}
use Rattle.fault_collapse.specs.declared.drivers.Driver.{Driver}
use Rattle.fault_collapse.specs.Joined.{IsEquivalent, IsJoined, line_at_pin}

-- Trees in which each member names an earlier one (Galler and Fisher, An improved equivalence algorithm, 1964).
abbrev pub IsForest : List ℕ → Type 0
IsForest parents = (k : ℕ) → k < length parents → slice_index parents k ≤ k

-- from each member one comes to the first of its class
pub record LeadsTo (parents : List ℕ) (first : ℕ → ℕ) : Type 0 where
  pub kept : (k : ℕ) → k < length parents → first (slice_index parents k) ≡ first k
  pub root : (k : ℕ) → k < length parents → slice_index parents k ≡ k → first k ≡ k
  pub low : (k : ℕ) → first k ≤ k
  pub once : (k : ℕ) → first (first k) ≡ first k

-- the first members once the classes of two first members are one
abbrev pub merged : (ℕ → ℕ) → ℕ → ℕ → ℕ → ℕ
merged first low high k = if first k == high then low else first k

abbrev pub stem_fault : ℕ → Bool → Fault
stem_fault z value = record { line = Stem z; value = value }

-- a pin of the definition stands for the line
pub record IsReadBy (n : Netlist) (line : Line) (d : Definition) : Type 0 where
  pub member : Contains n.definitions d
  pub place : ℕ
  pub signal : ℕ
  pub pin : slice_get d.pins place ≡ Some signal
  pub input : line ≡ line_at_pin n signal d.id place

-- The classes hold no more than the least equivalence does, and all joined pairs of which one fault is among the first m.
pub record AreMerged (n : Netlist) (parents : List ℕ) (m : ℕ) : Type 0 where
  pub size : length parents ≡ length (universe_of n)
  pub forest : IsForest parents
  pub first : ℕ → ℕ
  pub leads : LeadsTo parents first
  pub sound : (i : ℕ) (f g : Fault) → slice_get (universe_of n) i ≡ Some f → slice_get (universe_of n) (first i) ≡ Some g → IsEquivalent n g f
  pub complete : (i j : ℕ) (f g : Fault) → i < m → slice_get (universe_of n) i ≡ Some f → slice_get (universe_of n) j ≡ Some g → IsJoined n f g → first i ≡ first j

-- what drives a signal: its definition's kind, and the place of its stem among the lines
pub record IsDriver (n : Netlist) (d : Definition) (driver : Driver) : Type 0 where
  pub kind : driver.kind ≡ d.kind
  pub stem : slice_get (all_lines n) driver.stem ≡ Some (Stem d.id)

-- one for each definition, in order
pub record AreDrivers (n : Netlist) (drivers : List Driver) : Type 0 where
  pub size : length drivers ≡ length n.definitions
  pub each : (k : ℕ) (d : Definition) (driver : Driver) → slice_get n.definitions k ≡ Some d → slice_get drivers k ≡ Some driver → IsDriver n d driver

-- Of the first m faults each has the number of the first member of its class, and these are numbered in order.
pub record AreNumbered (faults : List Fault) (first : ℕ → ℕ) (numbers : List ℕ) (representatives : List Fault) (m : ℕ) : Type 0 where
  pub size : length numbers ≡ m
  pub within : (i : ℕ) → i < m → slice_index numbers i < length representatives
  pub kept : (i : ℕ) → i < m → slice_index numbers i ≡ slice_index numbers (first i)
  pub rising : (r j : ℕ) → r < m → first r ≡ r → j < r → slice_index numbers j < slice_index numbers r
  pub found : (class : ℕ) → class < length representatives → (r : ℕ) × (r < m) × (first r ≡ r) × (slice_index numbers r ≡ class) × (slice_get faults r ≡ slice_get representatives class)
