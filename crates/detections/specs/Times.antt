-- How many of some patterns detect a fault, counted to a number, and which patterns are among the last so many.
-- (Test sets that detect each fault n times: Ma, Franco and McCluskey, An experimental chip to evaluate test techniques, 1995.)
use Rattle.std.specs.Prelude.{ℕ, ◌≡◌, ◌<◌, ◌≤◌, ◌⊎◌, ◌↔◌, Bool, false, IsTrue, List, length, slice_index_or}
use Rattle.std.specs.List.{All, AllPairs, Contains}
use Rattle.statement.specs.declared.lines.Fault.{Fault}
use Rattle.statement.specs.declared.lines.Point.{Point}
use Rattle.statement.specs.Netlists.{Netlist}
use Rattle.statement.specs.Patterns.{Pattern, IsDetectedAt}

-- the pattern at this place of the list detects the fault, at some point
abbrev pub IsDetectedBy : Netlist → List Pattern → Fault → ℕ → Type 0
IsDetectedBy n patterns f place = (point : Point) × IsDetectedAt n patterns f place point

-- So many patterns of the list detect the fault, counted to most: those at these places, which rise. It is most, or no other pattern does.
pub record IsTimes (n : Netlist) (patterns : List Pattern) (most : ℕ) (f : Fault) (times : ℕ) : Type 0 where
  pub places : List ℕ
  pub rise : AllPairs (λ i j. i < j) places
  pub detect : All (IsDetectedBy n patterns f) places
  pub count : length places ≡ times
  pub bounded : times ≤ most
  pub all : (times ≡ most) ⊎ ((place : ℕ) → IsDetectedBy n patterns f place → Contains places place)

-- the pattern at this place is among the last so many that detect the fault: it does, and fewer later ones do
pub record IsAmongLast (n : Netlist) (patterns : List Pattern) (most : ℕ) (f : Fault) (place : ℕ) : Type 0 where
  pub here : IsDetectedBy n patterns f place
  pub later : List ℕ
  pub fewer : length later < most
  pub all : (other : ℕ) → place < other → IsDetectedBy n patterns f other → Contains later other

-- it is among the last so many that detect one of the faults
abbrev pub IsNeededFor : Netlist → List Pattern → ℕ → List Fault → ℕ → Type 0
IsNeededFor n patterns most faults place = (f : Fault) × Contains faults f × IsAmongLast n patterns most f place

-- a mark for each pattern, true where it is needed
pub record AreNeededMarks (n : Netlist) (patterns : List Pattern) (most : ℕ) (faults : List Fault) (marks : List Bool) : Type 0 where
  pub size : length marks ≡ length patterns
  pub exactly : (place : ℕ) → IsTrue (slice_index_or marks place false) ↔ IsNeededFor n patterns most faults place
