-- Classes of which some are marked: what is left beside them.
use Rattle.std.specs.Prelude.{ℕ, ◌+◌, Bool, true, false, cond, List, [], ◌∷◌}
use Rattle.list_core.specs.declared.verdicts.Verdict.{Verdict}
use Rattle.list_core.specs.declared.verdicts.Verdict.TheVariants.{Open}

-- the weights of those that aren't marked, in order
abbrev pub unmarked_weights : List Bool → List ℕ → List ℕ
unmarked_weights [] weights = []
unmarked_weights (m ∷ ms) [] = []
unmarked_weights (m ∷ ms) (w ∷ ws) = cond m (unmarked_weights ms ws) (w ∷ unmarked_weights ms ws)

-- what those that are marked weigh together
abbrev pub marked_weight : List Bool → List ℕ → ℕ
marked_weight [] weights = 0
marked_weight (m ∷ ms) [] = 0
marked_weight (m ∷ ms) (w ∷ ws) = cond m w 0 + marked_weight ms ws

-- Open where a class is marked, and in order the verdicts of the others
abbrev pub spread : List Bool → List Verdict → List Verdict
spread [] verdicts = []
spread (true ∷ ms) verdicts = Open ∷ spread ms verdicts
spread (false ∷ ms) [] = Open ∷ spread ms []
spread (false ∷ ms) (v ∷ vs) = v ∷ spread ms vs
