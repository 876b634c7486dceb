-- How the order of evaluation is built with one look at each pin (private to this crate): once a signal is placed it is visited,
-- and then each pin that reads it no longer waits. A gate is placed as soon as none of its pins waits.
use Rattle.std.specs.Prelude.{ℕ, IsTrue, Bool, false, map, ◌++◌, ◌≡◌, ◌+◌, ◌<◌, ◌≤◌, ◌==◌, ◌&&◌, ◌⊎◌, nat_lt, if◌then◌else◌, List, [], ◌∷◌, length, slice_index, slice_set}
use Rattle.std.specs.List.{All, Contains}
use Rattle.statement.specs.declared.lines.Line.{Line}
use Rattle.statement.specs.declared.lines.Line.TheVariants.{Stem, Pin, Out}
use Rattle.netlist.specs.declared.order.Placing.{Placing}
use Rattle.netlist.specs.Lines.{IsPinBelow}
use Rattle.statement.specs.Netlists.{Definition, Netlist, gates, signals, readers_of}
use Rattle.netlist.specs.Conditions.{IsNumbered, most_signals}
use Rattle.netlist.specs.inner.Placed.{IsPlaced, zeros}

-- how many of these pins read a signal that is not visited
abbrev pub unvisited : (ℕ → Bool) → List ℕ → ℕ
unvisited visited [] = 0
unvisited visited (x ∷ xs) = (if visited x then 0 else 1) + unvisited visited xs

-- how many of these lines are pins of z
abbrev pub pins_among : ℕ → List Line → ℕ
pins_among z [] = 0
pins_among z (Pin y k ∷ lines) = (if y == z then 1 else 0) + pins_among z lines
pins_among z (Stem y ∷ lines) = pins_among z lines
pins_among z (Out y ∷ lines) = pins_among z lines

-- What is visited: nothing, what has a rank below r (below 2: the inputs and cells), the inputs and cells before x.
abbrev pub nothing : ℕ → Bool
nothing y = false

abbrev pub placed_below : List ℕ → ℕ → ℕ → Bool
placed_below ranks r y = nat_lt 0 (slice_index ranks y) && nat_lt (slice_index ranks y) r

abbrev pub sources_below : List ℕ → ℕ → ℕ → Bool
sources_below ranks x y = nat_lt y x && placed_below ranks 2 y

-- the counts before anything is visited
abbrev pub start_counts : Netlist → List ℕ
start_counts n = map (λ _. 0) n.inputs ++ map (λ (d : Definition). length d.pins) n.definitions

-- Each gate that isn't placed has the count of its pins that wait: those whose signal isn't visited, and those on the lines that are left of a visit.
-- It is never 0.
pub record IsCounted (n : Netlist) (visited : ℕ → Bool) (lines : List Line) (p : Placing) : Type 0 where
  pub placed : IsPlaced n p.order.items p.ranks.items
  pub visited_placed : (x : ℕ) → IsTrue (visited x) → 0 < slice_index p.ranks.items x
  pub counted : (d : Definition) → Contains (gates n) d → slice_index p.ranks.items d.id ≡ 0
      → slice_index p.counts.items d.id ≡ unvisited visited d.pins + pins_among d.id lines
  pub waits : (d : Definition) → Contains (gates n) d → slice_index p.ranks.items d.id ≡ 0 → 0 < slice_index p.counts.items d.id

-- Nothing is visited, and no gate below m without pins waits.
pub record IsStarted (n : Netlist) (m : ℕ) (p : Placing) : Type 0 where
  pub placed : IsPlaced n p.order.items p.ranks.items
  pub counted : (d : Definition) → Contains (gates n) d → slice_index p.ranks.items d.id ≡ 0 → slice_index p.counts.items d.id ≡ length d.pins
  pub waits : (d : Definition) → Contains (gates n) d → d.id < m → slice_index p.ranks.items d.id ≡ 0 → 0 < slice_index p.counts.items d.id

-- there are as many counts as ranks, and room in the order for each signal without a rank
pub record HasRoom (p : Placing) : Type 0 where
  pub counts : length p.counts.items ≡ length p.ranks.items
  pub left : length p.order.items + zeros p.ranks.items ≤ length p.ranks.items
  pub small : length p.ranks.items ≤ most_signals

-- ranks stay, and new ones are above those that there were
pub record RanksGrow (p q : Placing) : Type 0 where
  pub size : length q.ranks.items ≡ length p.ranks.items
  pub order : length p.order.items ≤ length q.order.items
  pub stay : (y : ℕ) → 0 < slice_index p.ranks.items y → slice_index q.ranks.items y ≡ slice_index p.ranks.items y
  pub new : (y : ℕ) → slice_index p.ranks.items y ≡ 0 → (slice_index q.ranks.items y ≡ 0) ⊎ (length p.order.items + 2 ≤ slice_index q.ranks.items y)

-- z is placed behind the others
pub record Places (z : ℕ) (p q : Placing) : Type 0 where
  pub order : q.order.items ≡ p.order.items ++ z ∷ []
  pub ranks : q.ranks.items ≡ slice_set p.ranks.items z (length p.order.items + 2)
  pub counts : q.counts.items ≡ p.counts.items

-- z is placed, if it is a gate without pins
pub record PlacesTie (z : ℕ) (p q : Placing) : Type 0 where
  pub room : HasRoom q
  pub size : length q.ranks.items ≡ length p.ranks.items
  pub started : (n : Netlist) → IsNumbered n → IsStarted n z p → IsStarted n (z + 1) q

-- the gates without pins are placed
pub record PlacesTies (p q : Placing) : Type 0 where
  pub room : HasRoom q
  pub size : length q.ranks.items ≡ length p.ranks.items
  pub counted : (n : Netlist) → IsNumbered n → IsStarted n 0 p → IsCounted n nothing [] q

-- the pins on these lines no longer wait
pub record Counts (lines : List Line) (p q : Placing) : Type 0 where
  pub room : HasRoom q
  pub grow : RanksGrow p q
  pub counted : (n : Netlist) (visited : ℕ → Bool) (rest : List Line) → IsNumbered n
      → IsCounted n visited (lines ++ rest) p → IsCounted n visited rest q

-- as a table of readers is for m signals
pub record AreBelow (m : ℕ) (table : List (List Line)) : Type 0 where
  pub size : length table ≡ m
  pub pins : All (All (IsPinBelow m)) table

-- the readers of each signal
abbrev pub AreReaders : Netlist → List (List Line) → Type 0
AreReaders n table = table ≡ map (readers_of n) (signals n)

-- the inputs and cells are visited
pub record VisitsSources (table : List (List Line)) (p q : Placing) : Type 0 where
  pub room : HasRoom q
  pub size : length q.ranks.items ≡ length p.ranks.items
  pub counted : (n : Netlist) → IsNumbered n → AreReaders n table → IsCounted n nothing [] p → IsCounted n (placed_below q.ranks.items 2) [] q
