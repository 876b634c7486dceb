-- Of which patterns a test for slow lines is made. (Static compaction: Goel and Rosales 1979; in reverse order: Bushnell and Agrawal, Essentials
-- of Electronic Testing.)
use Rattle.std.specs.Prelude.{ℕ, ◌≡◌, ◌++◌, ◌↔◌, Bool, IsTrue, List, [], ◌∷◌, Option, Some, None, length}
use Rattle.std.specs.List.{flat_map}
use Rattle.statement.specs.Netlists.{Netlist}
use Rattle.cubes.specs.Cubes.{Cube}
use Rattle.statement.specs.Patterns.{Pattern}
use Rattle.cubes.specs.Filling.{filled_all}
use Rattle.cubes.specs.Merging.{AreMerged}
use Rattle.statement.specs.Faults.{universe_of}
use Rattle.evidence.specs.declared.engine.Found.{Found}
use Rattle.evidence.specs.declared.engine.Found.TheVariants.{Test, Closed, Refuted, Partial}
use Rattle.list_core.specs.Kept.{kept_from}
use Rattle.transition_tests.specs.Batches.{words_on_stream}
use Rattle.transition_tests.specs.Verdicts.{IsNeededForTransitions}

-- the cube of a test
abbrev pub cube_of : Option Found → List Cube
cube_of None = []
cube_of (Some (Test cube point)) = cube ∷ []
cube_of (Some (Closed tree)) = []
cube_of (Some (Refuted steps)) = []
cube_of (Some (Partial tree)) = []

-- those of all answers, in order
abbrev pub cubes_in : List (Option Found) → List Cube
cubes_in found = flat_map cube_of found

-- the cubes merged, and each then filled from the words of this stream of the seed
abbrev pub AreFilledFrom : List Cube → ℕ → ℕ → List Pattern → Type 0
AreFilledFrom cubes stream seed patterns = (merged : List Cube) × AreMerged cubes merged (length cubes) × (patterns ≡ filled_all merged (words_on_stream stream seed))

-- the batch, and behind it what the cubes become
abbrev pub AreBehind : List Pattern → List Cube → ℕ → ℕ → List Pattern → Type 0
AreBehind batch cubes stream seed patterns = (others : List Pattern) × AreFilledFrom cubes stream seed others × (patterns ≡ batch ++ others)

-- Behind the batch stand the patterns of all tests; of these those are kept that are the last to detect some transition fault, in order.
pub record AreMadeFrom (n : Netlist) (batch : List Pattern) (found : List (Option Found)) (seed : ℕ) (kept : List Pattern) : Type 0 where
  pub others : List Pattern
  pub filled : AreFilledFrom (cubes_in found) 0 seed others
  pub needed : ℕ → Bool
  pub exactly : (place : ℕ) → IsTrue (needed place) ↔ IsNeededForTransitions n (universe_of n) (batch ++ others) place
  pub are : kept ≡ kept_from needed 0 (batch ++ others)
