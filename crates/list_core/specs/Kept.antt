-- Which patterns are kept. (Static compaction by fault simulation in reverse order: Bushnell and Agrawal, Essentials of Electronic Testing;
-- here each class is left to the last pattern that detects it.)
use Rattle.std.specs.Prelude.{ℕ, zero, suc, ◌≡◌, ◌+◌, ◌==◌, ◌||◌, ◌↔◌, Bool, false, cond, IsTrue, List, [], ◌∷◌, Option, Some, None}
use Rattle.std.specs.List.{AllZip, Contains}
use Rattle.statement.specs.declared.lines.Fault.{Fault}
use Rattle.statement.specs.declared.lines.Point.{Point}
use Rattle.statement.specs.Netlists.{Netlist}
use Rattle.statement.specs.Patterns.{Pattern, IsLastDetected}
use Rattle.word_sim.specs.Hits.{LastDetected}

-- where each of these faults is last detected, if at all
abbrev pub AreLastDetected : Netlist → List Pattern → List Fault → List (Option (ℕ × Point)) → Type 0
AreLastDetected n patterns faults last = AllZip (LastDetected n patterns) faults last

-- some fault is last detected at this place
abbrev pub is_last_at : List (Option (ℕ × Point)) → ℕ → Bool
is_last_at [] place = false
is_last_at (None ∷ ls) place = is_last_at ls place
is_last_at (Some l ∷ ls) place = (l.0 == place) || is_last_at ls place

-- the pattern at this place is the last to detect one of the faults
abbrev pub IsNeeded : Netlist → List Pattern → List Fault → ℕ → Type 0
IsNeeded n patterns faults place = (f : Fault) × Contains faults f × ((point : Point) × IsLastDetected n patterns f place point)

-- the elements at the marked places, where the first one stands at place k
abbrev pub kept_from : {X : Type 0} → (ℕ → Bool) → ℕ → List X → List X
kept_from marked k [] = []
kept_from marked k (x ∷ xs) = cond (marked k) (x ∷ kept_from marked (suc k) xs) (kept_from marked (suc k) xs)

-- how many of so many places from k on are marked
abbrev pub marked_from : (ℕ → Bool) → ℕ → ℕ → ℕ
marked_from marked k zero = 0
marked_from marked k (suc count) = cond (marked k) 1 0 + marked_from marked (suc k) count

-- where the element at a marked place stands among those that are kept
abbrev pub new_place : (ℕ → Bool) → ℕ → ℕ
new_place marked place = marked_from marked 0 place

-- the needed patterns, in order
pub record AreKept (n : Netlist) (faults : List Fault) (patterns kept : List Pattern) : Type 0 where
  pub needed : ℕ → Bool
  pub exactly : (place : ℕ) → IsTrue (needed place) ↔ IsNeeded n patterns faults place
  pub are : kept ≡ kept_from needed 0 patterns
