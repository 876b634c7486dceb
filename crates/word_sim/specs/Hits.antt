-- Patterns that are published together, and what patterns detect. (Fault dropping by the last detecting pattern, as static compaction
-- in reverse order wants it: Bushnell and Agrawal, Essentials of Electronic Testing.)
use Rattle.std.specs.Prelude.{ℕ, ◌≡◌, ◌<◌, ◌⊎◌, true, List, [], ◌∷◌, Option, Some, None}
use Rattle.statement.specs.declared.lines.Fault.{Fault}
use Rattle.statement.specs.declared.lines.Point.{Point}
use Rattle.statement.specs.Netlists.{Netlist}
use Rattle.statement.specs.Patterns.{Pattern, IsDetectedAt, IsBefore, IsLastDetected}
use Rattle.events.specs.Words.{bit_of}
use Rattle.word_sim.specs.declared.batches.Hit.{Hit}

-- patterns, and hits that name places among them
pub record Batch : Type 0 where
  pub patterns : List Pattern
  pub hits : List Hit

-- the last pattern that is marked by its bit of a word and detects the fault, and the first point at which it does
pub record IsLastMarked (n : Netlist) (patterns : List Pattern) (marks : ℕ) (f : Fault) (place : ℕ) (point : Point) : Type 0 where
  pub here : IsDetectedAt n patterns f place point
  pub marked : bit_of place marks ≡ true
  pub last : (later : ℕ) (p : Point) → place < later → bit_of later marks ≡ true → ¬ IsDetectedAt n patterns f later p
  pub first : (p : Point) → IsBefore p point → ¬ IsDetectedAt n patterns f place p

-- where it is last detected by a marked pattern, if at all
abbrev pub LastMarked : Netlist → List Pattern → ℕ → Fault → Option (ℕ × Point) → Type 0
LastMarked n patterns marks f None = (place : ℕ) (p : Point) → bit_of place marks ≡ true → ¬ IsDetectedAt n patterns f place p
LastMarked n patterns marks f (Some w) = IsLastMarked n patterns marks f w.0 w.1

abbrev pub IsNeverDetected : Netlist → List Pattern → Fault → Type 0
IsNeverDetected n patterns f = (place : ℕ) (p : Point) → ¬ IsDetectedAt n patterns f place p

-- where it is last detected, if at all
abbrev pub LastDetected : Netlist → List Pattern → Fault → Option (ℕ × Point) → Type 0
LastDetected n patterns f None = IsNeverDetected n patterns f
LastDetected n patterns f (Some p) = IsLastDetected n patterns f p.0 p.1

-- For each given fault, a class with its representative, one hit where some pattern detects it, by the last such pattern and its first point;
-- and no other, in the order given.
abbrev pub AreHits : Netlist → List Pattern → List (ℕ × Fault) → List Hit → Type 0
AreHits n patterns [] hits = hits ≡ []
AreHits n patterns (given ∷ others) hits =
    (IsNeverDetected n patterns given.1 × AreHits n patterns others hits)
    ⊎ ((h : Hit) × (rest : List Hit) × (hits ≡ h ∷ rest) × (h.class ≡ given.0) × IsLastDetected n patterns given.1 h.pattern h.point × AreHits n patterns others rest)
