-- How many signals pass a test of what is known of them and of their labels.
use Rattle.std.specs.Prelude.{ℕ, ◌+◌, ◌&&◌, Bool, true, false, not, List, [], ◌∷◌, Option, Some, None}
use Rattle.tri.specs.declared.labels.Label.{Label}
use Rattle.tri.specs.Labels.{is_known_as}

abbrev pub tally : Bool → ℕ
tally true = 1
tally false = 0

-- how many pairs, at the same place of two lists, pass the test
abbrev pub count_pairs : {A B : Type 0} → (A → B → Bool) → List A → List B → ℕ
count_pairs test [] ys = 0
count_pairs test (x ∷ xs) [] = 0
count_pairs test (x ∷ xs) (y ∷ ys) = tally (test x y) + count_pairs test xs ys

-- the signal is observed, and may differ
abbrev pub shows : Bool → Label → Bool
shows observed l = observed && l.may_differ

-- the decided bit is the other one than what the pins tell
abbrev pub contradicts : Option Bool → Label → Bool
contradicts None l = false
contradicts (Some b) l = is_known_as (not b) l.own
