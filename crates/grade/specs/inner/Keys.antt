-- Strobes as numbers that have their order.
use Rattle.std.specs.Prelude.{ℕ, ◌≡◌, ◌+◌, ◌*◌, ◌<◌, ◌≤◌, ◌^◌, ◌⊎◌, List, length, nat_lt, if◌then◌else◌, slice_index, slice_index_or}
use Rattle.statement.specs.declared.lines.Fault.{Fault}
use Rattle.statement.specs.declared.lines.Line.TheVariants.{Out}
use Rattle.statement.specs.declared.lines.Point.{Point}
use Rattle.statement.specs.Netlists.{Netlist, signals}
use Rattle.statement.specs.Patterns.{Detects, Pattern}
use Rattle.statement.specs.Tests.{IsStrobedAt}
use Rattle.scan_insert.specs.Scanned.{AreChainsOf}
use Rattle.observed_points.specs.Points.{ArePoints, point_of, points}
use Rattle.grade.specs.declared.keys.Timing.{Timing}

-- by the cycle, and then by the output
abbrev pub key_at : ℕ → ℕ → ℕ
key_at cycle output = cycle * 4294967296 + output

-- above all keys
abbrev pub most_key : ℕ
most_key = 18446744073709551615

abbrev pub lesser : ℕ → ℕ → ℕ
lesser one other = if nat_lt other one then other else one

-- the key of a point: that of its strobe for the first pattern
pub record IsKeyOf (n : Netlist) (chains : List (List ℕ)) (point : Point) (key : ℕ) : Type 0 where
  pub cycle : ℕ
  pub output : ℕ
  pub strobed : IsStrobedAt n chains 0 point cycle output
  pub few : output < 2 ^ 32
  pub key_is : key ≡ key_at cycle output
  pub small : key < most_key

-- the signal that the point of a number reads
abbrev pub signal_at : Netlist → ℕ → ℕ
signal_at n c = (slice_index_or (points n) c (Out 0, 0)).1

-- of the first m points that read a signal the least key
pub record AreLeastKeys (n : Netlist) (chains : List (List ℕ)) (m : ℕ) (keys : List ℕ) : Type 0 where
  pub size : length keys ≡ length (signals n)
  pub lower : (c : ℕ) → c < m → (key : ℕ) × IsKeyOf n chains (point_of n c) key × (slice_index keys (signal_at n c) ≤ key)
  pub some : (x : ℕ) → x < length keys → (slice_index keys x ≡ most_key) ⊎ ((c : ℕ) × (c < m) × (signal_at n c ≡ x) × IsKeyOf n chains (point_of n c) (slice_index keys x))

-- when what is observed of the netlist is strobed
pub record IsTimingOf (n : Netlist) (t : Timing) : Type 0 where
  pub are_chains : AreChainsOf n t.chains.now
  pub are_points : ArePoints n t.points.seen.items t.points.first.items t.points.numbers.items
  pub are_keys : AreLeastKeys n t.chains.now (length (points n)) t.keys.items

-- the least key of the points at which the pattern detects the fault, where it does at some
pub record IsFirstKey (n : Netlist) (chains : List (List ℕ)) (f : Fault) (p : Pattern) (key : ℕ) : Type 0 where
  pub lower : (point : Point) → Detects n f p.inputs p.cells point → (least : ℕ) × IsKeyOf n chains point least × (key ≤ least)
  pub some : (point : Point) → Detects n f p.inputs p.cells point → (first : Point) × Detects n f p.inputs p.cells first × IsKeyOf n chains first key
