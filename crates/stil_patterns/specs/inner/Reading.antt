-- Items beside each other.
use Rattle.std.specs.Prelude.{ℕ, List, [], ◌∷◌, slice_index_or}
use Rattle.statement.specs.Stils.{Item, Vector}

-- the item before the one at a place, and before the first one a vector without words
abbrev pub item_before : List Item → ℕ → Item
item_before items place = slice_index_or (Vector [] ∷ items) place (Vector [])
