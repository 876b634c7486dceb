-- The patterns that a file launches.
use Rattle.std.specs.Prelude.{ℕ, List, [], ◌∷◌}
use Rattle.statement.specs.Netlists.{Netlist}
use Rattle.statement.specs.Patterns.{Holds, Pattern}
use Rattle.statement.specs.Stils.{StilFile}
use Rattle.stil_patterns.specs.Applied.{applied_in}

-- the first, the third and so on
abbrev pub every_second : {X : Type 0} → List X → List X
every_second [] = []
every_second (x ∷ []) = x ∷ []
every_second (x ∷ y ∷ xs) = x ∷ every_second xs

-- Each load has its launch directly behind it. Without chains each launch and each capture drives a pattern.
abbrev pub launched_in : Netlist → Holds → List (List ℕ) → StilFile → List Pattern
launched_in n holds [] f = every_second (applied_in n holds [] f)
launched_in n holds (chain ∷ chains) f = applied_in n holds (chain ∷ chains) f
