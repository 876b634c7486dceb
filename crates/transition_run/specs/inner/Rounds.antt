-- What stands before each of the two rounds of searches.
use Rattle.std.specs.Prelude.{ℕ, ◌≡◌, ◌≤◌, ◌+◌, Bool, List, Option, length}
use Rattle.std.specs.List.{All}
use Rattle.statement.specs.Netlists.{Netlist}
use Rattle.statement.specs.Patterns.{Holds, Pattern}
use Rattle.statement.specs.Faults.{universe_of}
use Rattle.cubes.specs.Cubes.{IsPatternOf}
use Rattle.evidence.specs.declared.engine.Found.{Found}
use Rattle.transition.specs.Searches.{AreFoundWhereLeft}
use Rattle.transition_tests.specs.Batches.{AreLeftBy}
use Rattle.transition_tests.specs.Rounds.{AreUnanswered}

-- patterns that are drawn, and a mark for each fault
pub record AreDrawn (n : Netlist) (holds : Holds) (patterns : List Pattern) (searched : List Bool) : Type 0 where
  pub obey : All (IsPatternOf n holds) patterns
  pub count : length patterns ≡ 64
  pub size : length searched ≡ length (universe_of n)

-- patterns, the faults that they leave, the answers of a first round, and the faults that are left and have none
pub record AreBehind (n : Netlist) (holds : Holds) (limit : ℕ) (refutes : Bool) (patterns : List Pattern) (left : List Bool) (found : List (Option Found)) (rest : List Bool) : Type 0 where
  pub obey : All (IsPatternOf n holds) patterns
  pub few : length patterns ≤ length (universe_of n) + 64
  pub by : AreLeftBy n patterns (universe_of n) left
  pub searched : List Bool
  pub answers : AreFoundWhereLeft n holds limit refutes (universe_of n) searched found
  pub unasked : AreUnanswered left found rest
