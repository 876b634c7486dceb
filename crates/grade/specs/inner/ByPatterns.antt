-- Grades by patterns, on the way: the patterns are asked in reverse order, 64 a batch.
use Rattle.std.specs.Prelude.{ℕ, ◌≡◌, ◌+◌, ◌*◌, ◌<◌, ◌≤◌, ◌^◌, ◌⊎◌, List, [], drop, length, reverse, slice_get, slice_index_or, take, Option, Some, None}
use Rattle.std.specs.List.{All, AllZip}
use Rattle.statement.specs.declared.lines.Fault.{Fault}
use Rattle.statement.specs.declared.lines.Point.{Point}
use Rattle.statement.specs.Netlists.{Netlist}
use Rattle.statement.specs.Patterns.{Holds, Pattern}
use Rattle.statement.specs.Runs.{Cycle}
use Rattle.netlist.specs.Lines.{IsLineOf}
use Rattle.events.specs.Standing.{Standing}
use Rattle.regions.specs.Paths.{AreOpen}
use Rattle.regions.specs.declared.paths.Paths.{Paths}
use Rattle.scan_play.specs.Vectors.{AreVectors}
use Rattle.word_sim.specs.Hits.{LastDetected}
use Rattle.word_sim.specs.Words.{HasWidthsOf}
use Rattle.word_sim.specs.inner.Groups.{HasRoom}
use Rattle.word_sim.specs.inner.Packed.{AreGoodFor, AreSettledWords}
use Rattle.grade.specs.Patterns.{IsPatternGrade}
use Rattle.grade.specs.declared.by_patterns.Asked.{Asked}
use Rattle.grade.specs.declared.grade.Grade.{Grade}
use Rattle.grade.specs.declared.grade.Grade.TheVariants.{Detected, Undetected}
use Rattle.grade.specs.inner.Keys.{IsTimingOf, key_at}

-- a place is none of the batch from one on; or it is one, so far behind the first
abbrev pub IsOutside : ℕ → ℕ → Type 0
IsOutside place start = (place < start) ⊎ (start + 64 ≤ place)

abbrev pub IsOffset : ℕ → ℕ → ℕ → Type 0
IsOffset place start j = (place ≡ start + j) × (j < 64)

-- what is told isn't a pattern of the batch
abbrev pub IsElsewhere : Option (ℕ × Point) → ℕ → Type 0
IsElsewhere told start = (w : ℕ × Point) → told ≡ Some w → (w.0 < start) ⊎ (start + 64 ≤ w.0)

-- it is, at this place in it
pub record IsThere (told : Option (ℕ × Point)) (start j : ℕ) : Type 0 where
  pub point : Point
  pub is_told : told ≡ Some (start + j, point)
  pub low : j < 64

-- it is detected where this key says, for the pattern at a place
pub record IsAtPlace (longest place key : ℕ) (grade : Grade) : Type 0 where
  pub cycle : ℕ
  pub output : ℕ
  pub key_is : key ≡ key_at cycle output
  pub few : output < 2 ^ 32
  pub grade_is : grade ≡ Detected (cycle + place * (longest + 1)) output

-- what is given to all batches is the netlist's own, the patterns aren't too many, and of each line it is told which of them detects it last
pub record AreAsked (a : Asked) : Type 0 where
  pub timing : IsTimingOf a.core.now a.timing.now
  pub lines : All (λ (f : Fault). IsLineOf a.core.now f.line) a.faults.now
  pub wide : All (HasWidthsOf a.core.now) a.latest.now
  pub count : length a.latest.now + 64 ≤ 2 ^ 32
  pub told : AllZip (LastDetected a.core.now a.latest.now) a.faults.now a.told.now

-- The grade is right where the first pattern that detects the fault is among the first m in reverse order, or there is none.
abbrev pub IsGradedUpTo : Netlist → List (List ℕ) → List Pattern → ℕ → Fault → Option (ℕ × Point) → Grade → Type 0
IsGradedUpTo n chains latest m f None grade = grade ≡ Undetected
IsGradedUpTo n chains latest m f (Some w) grade = w.0 < m → IsPatternGrade n chains (reverse latest) f grade

-- the same of the line at a place
abbrev pub IsGradedAt : Asked → ℕ → ℕ → Grade → Type 0
IsGradedAt a m k grade =
    (f : Fault) → slice_get a.faults.now k ≡ Some f → IsGradedUpTo a.core.now a.timing.now.chains.now a.latest.now m f (slice_index_or a.told.now k None) grade

pub record AreGradedUpTo (a : Asked) (m : ℕ) (grades : List Grade) : Type 0 where
  pub size : length grades ≡ length a.faults.now
  pub each : (k : ℕ) → IsGradedAt a m k (slice_index_or grades k Undetected)

-- the same of the first i lines behind a batch, and of the others before it
pub record AreGradedPart (a : Asked) (start i : ℕ) (grades : List Grade) : Type 0 where
  pub size : length grades ≡ length a.faults.now
  pub done : (k : ℕ) → k < i → IsGradedAt a (start + 64) k (slice_index_or grades k Undetected)
  pub left : (k : ℕ) → i ≤ k → IsGradedAt a start k (slice_index_or grades k Undetected)

-- the grade of each line, by the patterns in order
abbrev pub ArePatternGrades : Asked → List Grade → Type 0
ArePatternGrades a grades = AllZip (IsPatternGrade a.core.now a.timing.now.chains.now (reverse a.latest.now)) a.faults.now grades

-- the words are those of the batch, at rest, and the paths are theirs
pub record IsBatch (a : Asked) (start : ℕ) (events : Standing ℕ) (paths : Paths) : Type 0 where
  pub netlist : events.netlist ≡ a.core.now
  pub good : AreGoodFor a.core.now (take 64 (drop start a.latest.now)) events.values
  pub are_open : AreOpen a.core.now events.values paths.heads.items paths.opens.items
  pub trail : events.trail ≡ []

-- behind the first m patterns: the grades, and that another batch can be settled
pub record IsBehind (a : Asked) (m : ℕ) (events : Standing ℕ) (paths : Paths) (grades : List Grade) : Type 0 where
  pub netlist : events.netlist ≡ a.core.now
  pub settled : AreSettledWords a.core.now events.values
  pub room : HasRoom a.core.now paths.heads.items paths.opens.items
  pub graded : AreGradedUpTo a m grades

-- these cycles are the vectors of patterns, which aren't too many
pub record AreTestCycles (n : Netlist) (chains : List (List ℕ)) (cycles : List Cycle) (patterns : List Pattern) : Type 0 where
  pub holds : Holds
  pub are_vectors : AreVectors n holds chains patterns cycles
  pub wide : All (HasWidthsOf n) patterns
  pub few : length patterns + 64 ≤ 2 ^ 32
