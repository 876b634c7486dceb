-- When enough is detected.
use Rattle.std.specs.Prelude.{ℕ, ◌≤◌, ◌+◌, ◌*◌, List, [], ◌∷◌}
use Rattle.list_core.specs.declared.goals.Goal.{Goal}
use Rattle.list_core.specs.declared.verdicts.Verdict.{Verdict}
use Rattle.list_core.specs.Verdicts.{one_if_class_detected}

-- what the classes that are detected count together; a class that has no weight counts nothing
abbrev pub detected_weight : List ℕ → List Verdict → ℕ
detected_weight [] verdicts = 0
detected_weight (w ∷ ws) [] = 0
detected_weight (w ∷ ws) (v ∷ vs) = w * one_if_class_detected v + detected_weight ws vs

abbrev pub IsEnough : Goal → List Verdict → Type 0
IsEnough goal verdicts = goal.enough ≤ detected_weight goal.weights.items verdicts
