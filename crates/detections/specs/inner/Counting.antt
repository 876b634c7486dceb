-- Detections counted from the last pattern on, and the patterns that count marked.
use Rattle.std.specs.Prelude.{ℕ, ◌≡◌, ◌+◌, ◌<◌, ◌≤◌, ◌⊎◌, ◌↔◌, Bool, true, false, List, length, slice_index, slice_index_or, Some}
use Rattle.std.specs.List.{All, AllPairs, Contains, slice_get}
use Rattle.statement.specs.declared.lines.Fault.{Fault}
use Rattle.statement.specs.Netlists.{Netlist}
use Rattle.statement.specs.Patterns.{Pattern}
use Rattle.events.specs.Words.{bit_of}
use Rattle.detections.specs.Times.{IsAmongLast, IsDetectedBy, IsNeededFor}

-- so many patterns from place m on detect the fault, counted to most
pub record IsTimesFrom (n : Netlist) (patterns : List Pattern) (most m : ℕ) (f : Fault) (times : ℕ) : Type 0 where
  pub places : List ℕ
  pub rise : AllPairs (λ i j. i < j) places
  pub from : All (λ i. m ≤ i) places
  pub detect : All (IsDetectedBy n patterns f) places
  pub count : length places ≡ times
  pub bounded : times ≤ most
  pub all : (times ≡ most) ⊎ ((place : ℕ) → m ≤ place → IsDetectedBy n patterns f place → Contains places place)

-- and those from there on that are among the last so many are marked
pub record IsCounted (n : Netlist) (patterns : List Pattern) (most m : ℕ) (f : Fault) (times : ℕ) (marks : List Bool) : Type 0 where
  pub times_from : IsTimesFrom n patterns most m f times
  pub marked : (place : ℕ) → m ≤ place → IsAmongLast n patterns most f place → slice_index_or marks place false ≡ true

-- marks stay, and what is marked beside them is among the last so many that detect the fault
pub record AddsMarks (n : Netlist) (patterns : List Pattern) (most : ℕ) (f : Fault) (old new : List Bool) : Type 0 where
  pub size : length new ≡ length old
  pub stay : (place : ℕ) → slice_index_or old place false ≡ true → slice_index_or new place false ≡ true
  pub right : (place : ℕ) → slice_index_or new place false ≡ true → (slice_index_or old place false ≡ true) ⊎ IsAmongLast n patterns most f place

-- if it was counted from one place on, it is from another on now
abbrev pub CountsOn : Netlist → List Pattern → ℕ → ℕ → ℕ → Fault → ℕ → ℕ → List Bool → List Bool → Type 0
CountsOn n patterns most start end f times times' marks marks' =
    IsCounted n patterns most end f times marks → IsCounted n patterns most start f times' marks' × AddsMarks n patterns most f marks marks'

-- the word has the patterns from one place to another that detect the fault
abbrev pub TellsPlaces : Netlist → List Pattern → ℕ → ℕ → Fault → ℕ → Type 0
TellsPlaces n patterns start end f word = (j : ℕ) → start + j < end → (bit_of j word ≡ true) ↔ IsDetectedBy n patterns f (start + j)

-- a word's places from j on are counted, for whichever patterns and fault it is told
pub record CountsWord (word start end most times : ℕ) (old : List Bool) (j times' : ℕ) (marks : List Bool) : Type 0 where
  pub size : length marks ≡ length old
  pub counts : (n : Netlist) (patterns : List Pattern) (f : Fault) → TellsPlaces n patterns start end f word → CountsOn n patterns most (start + j) end f times times' old marks

-- each fault is counted from place m on, and no other pattern is marked
pub record AreCounted (n : Netlist) (patterns : List Pattern) (most m : ℕ) (faults : List Fault) (times : List ℕ) (marks : List Bool) : Type 0 where
  pub times_size : length times ≡ length faults
  pub marks_size : length marks ≡ length patterns
  pub each : (k : ℕ) (f : Fault) → slice_get faults k ≡ Some f → IsCounted n patterns most m f (slice_index times k) marks
  pub right : (place : ℕ) → slice_index_or marks place false ≡ true → IsNeededFor n patterns most faults place

-- the first k faults from one place on, and the others from another on
pub record AreCountedUpTo (n : Netlist) (patterns : List Pattern) (most start end : ℕ) (faults : List Fault) (times : List ℕ) (marks : List Bool) (k : ℕ) : Type 0 where
  pub times_size : length times ≡ length faults
  pub marks_size : length marks ≡ length patterns
  pub before : (i : ℕ) (f : Fault) → i < k → slice_get faults i ≡ Some f → IsCounted n patterns most start f (slice_index times i) marks
  pub after : (i : ℕ) (f : Fault) → k ≤ i → slice_get faults i ≡ Some f → IsCounted n patterns most end f (slice_index times i) marks
  pub right : (place : ℕ) → slice_index_or marks place false ≡ true → IsNeededFor n patterns most faults place
