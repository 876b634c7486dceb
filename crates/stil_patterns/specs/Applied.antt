-- The patterns that a file applies: what it loads and drives, whatever it strobes.
use Rattle.std.specs.Prelude.{ℕ, zero, suc, ◌-◌, ◌==◌, ◌&&◌, Bool, true, List, [], ◌∷◌, ◌++◌, length, map, take, drop, reverse, slice_index_or, Option, Some, None}
use Rattle.std.specs.Bool.{beq}
use Rattle.std.specs.List.{filter, flat_map, list_all, zip}
use Rattle.statement.specs.Benches.{Text}
use Rattle.statement.specs.Netlists.{Netlist, cells}
use Rattle.statement.specs.Patterns.{Holds, Pattern}
use Rattle.statement.specs.Stils.{Call, Item, StilFile, Vector}
use Rattle.statement.specs.Tests.{driven_bit}

-- What a word brings to a chain of so many cells: its last character to the first.
abbrev pub chain_in : ℕ → Text → List Bool
chain_in count word = take count (reverse (map driven_bit word))

-- what the scan inputs' words bring to the cells of all chains
abbrev pub cells_in : List (List ℕ) → List Text → List Bool
cells_in [] words = []
cells_in (chain ∷ chains) words = chain_in (length chain) (slice_index_or words 0 []) ++ cells_in chains (drop 1 words)

-- What a word drives the inputs with; in a file with chains its last character is for the scan enable.
abbrev pub inputs_in : ℕ → Text → List Bool
inputs_in zero word = map driven_bit word
inputs_in (suc count) word = take (length word - 1) (map driven_bit word)

-- by the words of a load and of a vector, in a file of so many chains
abbrev pub pattern_in : ℕ → List (List ℕ) → List Text → List Text → Pattern
pattern_in count chains load vector = record { inputs = inputs_in count (slice_index_or vector 0 []); cells = cells_in chains (take count load) }

-- An item applies a pattern where it is a vector, and the item before it a load; where the netlist has no chains, nothing has to be loaded.
abbrev pub test_in : ℕ → List (List ℕ) → Item → Item → List Pattern
test_in count chains before (Call words) = []
test_in count [] before (Vector words) = pattern_in count [] [] words ∷ []
test_in count (chain ∷ chains) (Call load) (Vector words) = pattern_in count (chain ∷ chains) load words ∷ []
test_in count (chain ∷ chains) (Vector other) (Vector words) = []

-- each item with the one before it, which of the first is none that loads
abbrev pub tests_in : ℕ → List (List ℕ) → List Item → List Pattern
tests_in count chains items = flat_map (λ p. test_in count chains p.0 p.1) (zip (Vector [] ∷ items) items)

-- an input that is held has its bit
abbrev pub is_met : Option Bool → Bool → Bool
is_met None bit = true
is_met (Some own) bit = beq own bit

-- it has a bit for each input and each cell, and each held input has its bit
abbrev pub is_pattern : Netlist → Holds → Pattern → Bool
is_pattern n holds p = length p.inputs == length n.inputs && length p.cells == length (cells n) && list_all (λ q. is_met q.0 q.1) (zip holds p.inputs)

-- What a file applies of patterns of the netlist that obey its held inputs.
abbrev pub applied_in : Netlist → Holds → List (List ℕ) → StilFile → List Pattern
applied_in n holds chains f = filter (is_pattern n holds) (tests_in (length f.chains) chains f.items)
