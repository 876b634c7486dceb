-- What is told of faults of which some are left out.
use Rattle.std.specs.Prelude.{ℕ, Bool, true, false, List, [], ◌∷◌, Option, None}
use Rattle.statement.specs.declared.lines.Point.{Point}

-- nothing of a fault that is marked, and in order what is told of the others
abbrev pub told_of_all : List Bool → List (Option (ℕ × Point)) → List (Option (ℕ × Point))
told_of_all [] told = []
told_of_all (true ∷ ms) told = None ∷ told_of_all ms told
told_of_all (false ∷ ms) [] = None ∷ told_of_all ms []
told_of_all (false ∷ ms) (t ∷ ts) = t ∷ told_of_all ms ts
