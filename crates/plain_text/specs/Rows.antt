-- Lists that stand one behind the other in one buffer, by the place where each ends.
use Rattle.std.specs.Prelude.{ℕ, ◌≡◌, ◌≤◌, ◌-◌, List, [], ◌∷◌, length, take, drop}

abbrev pub rows : {X : Type 0} → ℕ → List X → List ℕ → List (List X)
rows start items [] = []
rows start items (end ∷ ends) = take (end - start) (drop start items) ∷ rows end items ends

-- each list ends where the next begins or behind it, and the last one at the end of the buffer
abbrev pub AreEnds : {X : Type 0} → ℕ → List X → List ℕ → Type 0
AreEnds start items [] = length items ≡ start
AreEnds start items (end ∷ ends) = (start ≤ end) × AreEnds end items ends
