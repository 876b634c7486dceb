-- What is told of faults by patterns in front of a tail, and of all faults by both.
use Rattle.std.specs.Prelude.{ℕ, ◌-◌, cond, nat_le, List, [], ◌∷◌, Option, Some, None}
use Rattle.statement.specs.declared.lines.Point.{Point}
use Rattle.fewer_patterns.specs.inner.Enough.{is_settled}

-- what was told of the faults that aren't settled
abbrev pub unsettled : ℕ → List (Option (ℕ × Point)) → List (Option (ℕ × Point))
unsettled start [] = []
unsettled start (l ∷ ls) = cond (is_settled start l) (unsettled start ls) (l ∷ unsettled start ls)

-- the first that is told, and the others
abbrev pub first_told : List (Option (ℕ × Point)) → Option (ℕ × Point)
first_told [] = None
first_told (l ∷ ls) = l

abbrev pub others_told : List (Option (ℕ × Point)) → List (Option (ℕ × Point))
others_told [] = []
others_told (l ∷ ls) = ls

-- What was told of each fault by patterns whose tail begins at this place: what the tail detects, it still does so many places before. Of the others
-- the patterns that are now in front tell, in order: of those that were told, and of those that weren't.
abbrev pub joined : ℕ → ℕ → List (Option (ℕ × Point)) → List (Option (ℕ × Point)) → List (Option (ℕ × Point)) → List (Option (ℕ × Point))
joined start less [] front never = []
joined start less (None ∷ ls) front never = first_told never ∷ joined start less ls front (others_told never)
joined start less (Some one ∷ ls) front never =
    cond (nat_le start one.0) (Some (one.0 - less, one.1) ∷ joined start less ls front never) (first_told front ∷ joined start less ls (others_told front) never)
