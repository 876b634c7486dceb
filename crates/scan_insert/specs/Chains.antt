-- Scan chains: the cells in order, in chains whose lengths differ by one at most, the longer ones first.
use Rattle.std.specs.Prelude.{ℕ, ◌+◌, ◌-◌, ◌/◌, ◌%◌, min, List, [], ◌∷◌, ◌++◌, length, take, drop, replicate}

-- a list in pieces of these lengths
abbrev pub pieces : List ℕ → List ℕ → List (List ℕ)
pieces [] xs = []
pieces (n ∷ ns) xs = take n xs ∷ pieces ns (drop n xs)

-- The lengths of so many chains: a cell that is left over when all have equally many makes a chain one longer, from the first chain on.
abbrev pub lengths_of : ℕ → ℕ → List ℕ
lengths_of cells chains = replicate (cells % chains) (cells / chains + 1) ++ replicate (chains - cells % chains) (cells / chains)

-- the cells in as many chains as are asked for, but in no more than there are cells
abbrev pub chains_of : List ℕ → ℕ → List (List ℕ)
chains_of cells asked = let count = min asked (length cells) in pieces (lengths_of (length cells) count) cells
