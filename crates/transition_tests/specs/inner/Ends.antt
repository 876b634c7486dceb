-- How faults end, once all patterns were simulated. A fault that wasn't searched has no answer.
use Rattle.std.specs.Prelude.{ℕ, ◌≡◌, ⊤, List, [], ◌∷◌, Option, Some, None}
use Rattle.statement.specs.declared.lines.Point.{Point}
use Rattle.evidence.specs.declared.kinds.Evidence.TheVariants.{Tree, Refutation}
use Rattle.evidence.specs.declared.engine.Found.{Found}
use Rattle.evidence.specs.declared.engine.Found.TheVariants.{Test, Closed, Refuted, Partial}
use Rattle.transition_tests.specs.declared.verdicts.TransitionVerdict.{TransitionVerdict}
use Rattle.transition_tests.specs.declared.verdicts.TransitionVerdict.TheVariants.{Detected, Redundant, Aborted}

-- where a test was found, or the fault wasn't searched, some pattern detects it
abbrev pub IsDetectedIfTested : Option Found → Option (ℕ × Point) → Type 0
IsDetectedIfTested found (Some last) = ⊤
IsDetectedIfTested None None = ⊥
IsDetectedIfTested (Some (Test cube point)) None = ⊥
IsDetectedIfTested (Some (Closed tree)) None = ⊤
IsDetectedIfTested (Some (Refuted steps)) None = ⊤
IsDetectedIfTested (Some (Partial tree)) None = ⊤

-- where the fault is last detected, by the pattern's new place; or else the search's evidence
abbrev pub IsVerdictOf : (ℕ → ℕ) → Option Found → Option (ℕ × Point) → TransitionVerdict → Type 0
IsVerdictOf new found (Some last) v = v ≡ Detected (new last.0) last.1
IsVerdictOf new None None v = ⊥
IsVerdictOf new (Some (Test cube point)) None v = ⊥
IsVerdictOf new (Some (Closed tree)) None v = v ≡ Redundant (Tree tree)
IsVerdictOf new (Some (Refuted steps)) None v = v ≡ Redundant (Refutation steps)
IsVerdictOf new (Some (Partial tree)) None v = v ≡ Aborted tree

-- the same of each fault
abbrev pub AreVerdictsOf : (ℕ → ℕ) → List (Option Found) → List (Option (ℕ × Point)) → List TransitionVerdict → Type 0
AreVerdictsOf new [] [] [] = ⊤
AreVerdictsOf new (found ∷ others) (last ∷ lasts) (v ∷ vs) = IsVerdictOf new found last v × AreVerdictsOf new others lasts vs
AreVerdictsOf new _ _ _ = ⊥
