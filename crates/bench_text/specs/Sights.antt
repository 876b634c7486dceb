-- Names in the order of first sight. The number of a name is its place.
use Rattle.std.specs.Prelude.{ℕ, ◌∷◌, ◌++◌, [], fold, if◌then◌else◌, List}
use Rattle.std.specs.List.{list_any}
use Rattle.std.specs.Str.{bytes_eq}

-- names, with one more unless it is there
abbrev pub with_name : List (List ℕ) → List ℕ → List (List ℕ)
with_name xs x = if list_any (bytes_eq x) xs then xs else xs ++ x ∷ []

-- the names in the order of their first places
abbrev pub distinct : List (List ℕ) → List (List ℕ)
distinct xs = fold with_name [] xs
