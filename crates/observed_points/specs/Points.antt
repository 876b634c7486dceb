-- Observed points by number: the outputs in order, then the cells.
use Rattle.std.specs.Prelude.{ℕ, ◌≡◌, ◌≢◌, ◌<◌, ◌≤◌, ◌+◌, ◌-◌, nat_lt, cond, List, ◌++◌, map, length, slice_index, slice_index_or}
use Rattle.statement.specs.declared.lines.Line.{Line}
use Rattle.statement.specs.declared.lines.Line.TheVariants.{Pin, Out}
use Rattle.statement.specs.declared.lines.Point.{Point}
use Rattle.statement.specs.declared.lines.Point.TheVariants.{Output, Cell}
use Rattle.statement.specs.Netlists.{Definition, Netlist, cells, signals}
use Rattle.events.specs.Stuck.{IsObservedOnly}

-- the line that a point reads, and the signal that the line reads
abbrev pub output_point : ℕ → Line × ℕ
output_point x = (Out x, x)

abbrev pub cell_point : Definition → Line × ℕ
cell_point d = (Pin d.id 0, slice_index d.pins 0)

abbrev pub points : Netlist → List (Line × ℕ)
points n = map output_point n.outputs ++ map cell_point (cells n)

-- the signals that points read
abbrev pub watched : Netlist → List ℕ
watched n = n.outputs ++ map (λ (d : Definition). slice_index d.pins 0) (cells n)

-- the point of a number
abbrev pub point_of : Netlist → ℕ → Point
point_of n c = cond (nat_lt c (length n.outputs)) (Output c) (Cell (c - length n.outputs))

-- the least of the numbers from m on at which x stands, or their count
pub record IsFirstFrom (xs : List ℕ) (m x c : ℕ) : Type 0 where
  pub bounded : c ≤ length xs
  pub here : c < length xs → slice_index xs c ≡ x
  pub low : c < length xs → m ≤ c
  pub before : (k : ℕ) → m ≤ k → k < c → slice_index xs k ≢ x

-- for each signal below the count the first point from m on that reads it, or the count of points
pub record AreFirst (xs : List ℕ) (count m : ℕ) (first : List ℕ) : Type 0 where
  pub size : length first ≡ count
  pub each : (x : ℕ) → x < count → IsFirstFrom xs m x (slice_index first x)

-- for each of the first m cells its number as a point, and for every other signal the count of points
pub record AreCellPoints (n : Netlist) (numbers : List ℕ) (m : ℕ) : Type 0 where
  pub size : length numbers ≡ length (signals n)
  pub here : (j : ℕ) (d : Definition) → j < m → slice_index numbers (slice_index_or (cells n) j d).id ≡ length n.outputs + j
  pub others : (x : ℕ) → x < length (signals n) → ((j : ℕ) (d : Definition) → j < m → x ≢ (slice_index_or (cells n) j d).id) → slice_index numbers x ≡ length (points n)

-- what is kept of a netlist's points
pub record ArePoints (n : Netlist) (seen first numbers : List ℕ) : Type 0 where
  pub seen_is : seen ≡ watched n
  pub first_is : AreFirst seen (length (signals n)) 0 first
  pub numbers_are : AreCellPoints n numbers (length (cells n))

-- the point with this number, and no other, reads the line, which enters no equation
pub record IsReadAt (n : Netlist) (line : Line) (c : ℕ) : Type 0 where
  pub only : IsObservedOnly n line
  pub within : c < length (points n)
  pub here : (slice_index_or (points n) c (Out 0, 0)).0 ≡ line
