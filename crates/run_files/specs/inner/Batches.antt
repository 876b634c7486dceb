-- Patterns that are drawn, batch after batch.
use Rattle.std.specs.Prelude.{ℕ, ◌≡◌, ◌+◌, ◌≤◌, List, length}
use Rattle.std.specs.List.{All}
use Rattle.statement.specs.declared.lines.Fault.{Fault}
use Rattle.statement.specs.Netlists.{Netlist}
use Rattle.statement.specs.Patterns.{Holds, Pattern}
use Rattle.netlist.specs.Lines.{IsLineOf}
use Rattle.cubes.specs.Cubes.{Cube, IsCubeOf, IsPatternOf}
use Rattle.word_sim.specs.Words.{HasWidthsOf}

-- faults with their numbers, each on a line of the netlist
pub record AreNumbered (n : Netlist) (faults : List (ℕ × Fault)) : Type 0 where
  pub lines : All (λ (g : ℕ × Fault). IsLineOf n g.1.line) faults

-- These faults with numbers. (What is so of every netlist is opened by lemmas alone.)
unfoldable pub AreWithNumbers : List Fault → List (ℕ × Fault) → Type 0
AreWithNumbers faults numbered = (n : Netlist) → All (λ (f : Fault). IsLineOf n f.line) faults → AreNumbered n numbered

-- some of them
unfoldable pub AreRest : List (ℕ × Fault) → List (ℕ × Fault) → Type 0
AreRest left rest = (n : Netlist) → AreNumbered n left → AreNumbered n rest

unfoldable pub AreSome : List Pattern → List Pattern → Type 0
AreSome drawn taken = (length taken ≤ length drawn) × ((n : Netlist) (holds : Holds) → All (IsPatternOf n holds) drawn → All (IsPatternOf n holds) taken)

-- a batch of patterns of the cube
unfoldable pub AreOfCube : Cube → List Pattern → Type 0
AreOfCube cube drawn = (length drawn ≡ 64) × ((n : Netlist) (holds : Holds) → IsCubeOf n holds cube → All (IsPatternOf n holds) drawn)

-- the simulators are the netlist's, and so is the cube
pub record MayDraw (n : Netlist) (holds : Holds) (cube : Cube) (simulated : Netlist) : Type 0 where
  pub same : simulated ≡ n
  pub fits : IsCubeOf n holds cube

-- these patterns may be simulated together, on these faults
pub record MaySimulate (n : Netlist) (drawn : List Pattern) (left : List (ℕ × Fault)) : Type 0 where
  pub few : length drawn ≤ 64
  pub wide : All (HasWidthsOf n) drawn
  pub lines : All (λ (g : ℕ × Fault). IsLineOf n g.1.line) left

-- what is taken of a batch, and the faults that it leaves
pub record IsBatch (n : Netlist) (holds : Holds) (taken : List Pattern) (rest : List (ℕ × Fault)) : Type 0 where
  pub obey : All (IsPatternOf n holds) taken
  pub few : length taken ≤ 64
  pub lines : AreNumbered n rest

pub record IsSoFar (n : Netlist) (holds : Holds) (patterns : List Pattern) (left : List (ℕ × Fault)) : Type 0 where
  pub obey : All (IsPatternOf n holds) patterns
  pub lines : AreNumbered n left

-- with one batch more
pub record IsNext (n : Netlist) (holds : Holds) (old new : List Pattern) (left : List (ℕ × Fault)) : Type 0 where
  pub so_far : IsSoFar n holds new left
  pub few : length new ≤ length old + 64
