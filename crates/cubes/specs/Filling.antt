-- What the Xs of a cube are filled with.
use Rattle.std.specs.Prelude.{◌%◌, ◌==◌, Bool, true, false, List, [], ◌∷◌}
use Rattle.rand_core.specs.Stream.{Stream, next_u32}
use Rattle.statement.specs.declared.kinds.Tri.{Tri}
use Rattle.statement.specs.declared.kinds.Tri.TheVariants.{Zero, One, X}
use Rattle.cubes.specs.Cubes.{Cube}
use Rattle.statement.specs.Patterns.{Pattern}

-- bits stay, and each X takes the lowest bit of one word
abbrev pub filled : List Tri → Stream → List Bool
filled [] words = []
filled (Zero ∷ vs) words = false ∷ filled vs words
filled (One ∷ vs) words = true ∷ filled vs words
filled (X ∷ vs) words = ((next_u32 words).0 % 2 == 1) ∷ filled vs (next_u32 words).1

-- the words that are left then
abbrev pub words_after : List Tri → Stream → Stream
words_after [] words = words
words_after (Zero ∷ vs) words = words_after vs words
words_after (One ∷ vs) words = words_after vs words
words_after (X ∷ vs) words = words_after vs (next_u32 words).1

-- the pattern that a cube becomes: its inputs are filled first
abbrev pub filled_cube : Cube → Stream → Pattern
filled_cube c words = record { inputs = filled c.inputs words; cells = filled c.cells (words_after c.inputs words) }

-- the words that are left then
abbrev pub words_after_cube : Cube → Stream → Stream
words_after_cube c words = words_after c.cells (words_after c.inputs words)

-- the patterns that cubes become, each filled from the words that those before it leave
abbrev pub filled_all : List Cube → Stream → List Pattern
filled_all [] words = []
filled_all (c ∷ cs) words = filled_cube c words ∷ filled_all cs (words_after_cube c words)

-- the words that are left then
abbrev pub words_after_all : List Cube → Stream → Stream
words_after_all [] words = words
words_after_all (c ∷ cs) words = words_after_all cs (words_after_cube c words)
