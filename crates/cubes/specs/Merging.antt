-- Cubes merged into fewer. (Static compaction: Goel and Rosales 1979.)
use Rattle.std.specs.Prelude.{ℕ, ◌≡◌, ◌<◌, ◌↔◌, Bool, List, [], length, slice_index_or}
use Rattle.cubes.specs.Cubes.{Cube, HasBit, Contradicts, HaveSameWidths}

abbrev pub cube_at : List Cube → ℕ → Cube
cube_at cubes k = slice_index_or cubes k (record { inputs = []; cells = [] })

-- The first m cubes are merged, where cube j goes to the result at place j.
pub record AreMergedBy (place : ℕ → ℕ) (cubes results : List Cube) (m : ℕ) : Type 0 where
  -- the least place at which no earlier cube contradicts it
  pub clear : (j i : ℕ) → j < m → i < j → place i ≡ place j → ¬ Contradicts (cube_at cubes i) (cube_at cubes j)
  pub least : (j p : ℕ) → j < m → p < place j → (i : ℕ) × (i < j) × (place i ≡ p) × Contradicts (cube_at cubes i) (cube_at cubes j)
  -- each place has a result, with the bits of its cubes and X elsewhere
  pub placed : (j : ℕ) → j < m → place j < length results
  pub used : (p : ℕ) → p < length results → (j : ℕ) × (j < m) × (place j ≡ p)
  pub widths : (j : ℕ) → j < m → HaveSameWidths (cube_at results (place j)) (cube_at cubes j)
  pub bits : (p k : ℕ) (b : Bool) → p < length results
      → HasBit (cube_at results p) k b ↔ ((j : ℕ) × (j < m) × (place j ≡ p) × HasBit (cube_at cubes j) k b)

abbrev pub AreMerged : List Cube → List Cube → ℕ → Type 0
AreMerged cubes results m = (place : ℕ → ℕ) × AreMergedBy place cubes results m
