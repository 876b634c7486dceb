-- How one more cube is merged (private to this crate).
use Rattle.std.specs.Prelude.{ℕ, ◌≡◌, ◌<◌, ◌≤◌, ◌++◌, Bool, List, [], ◌∷◌, length, slice_index_or, slice_set, cond, ◌&&◌, ◌||◌}
use Rattle.std.specs.List.{list_any, zip}
use Rattle.statement.specs.declared.kinds.Tri.{Tri}
use Rattle.statement.specs.declared.kinds.Tri.TheVariants.{X}
use Rattle.netlist.specs.ThreeValues.{is_zero, is_one, is_x}
use Rattle.cubes.specs.Cubes.{Cube, Contradicts}
use Rattle.cubes.specs.Merging.{cube_at}

abbrev pub is_opposite : Tri → Tri → Bool
is_opposite v w = is_zero v && is_one w || is_one v && is_zero w

-- somewhere one list has a bit where the other has the other bit
abbrev pub are_opposed : List Tri → List Tri → Bool
are_opposed vs ws = list_any (λ p. is_opposite p.0 p.1) (zip vs ws)

abbrev pub join : Tri → Tri → Tri
join v w = cond (is_x v) w v

-- each X has become the other's value
pub record IsJoined (old others new : List Tri) : Type 0 where
  pub size : length new ≡ length old
  pub each : (k : ℕ) → k < length old → slice_index_or new k X ≡ join (slice_index_or old k X) (slice_index_or others k X)

pub record IsJoinedCube (old other new : Cube) : Type 0 where
  pub inputs : IsJoined old.inputs other.inputs new.inputs
  pub cells : IsJoined old.cells other.cells new.cells

-- the cube has joined the first result that it doesn't contradict, or begun a new one behind the others
pub record IsAdded (cube : Cube) (old new : List Cube) : Type 0 where
  pub place : ℕ
  pub within : place ≤ length old
  pub before : (p : ℕ) → p < place → Contradicts (cube_at old p) cube
  pub clear : place < length old → ¬ Contradicts (cube_at old place) cube
  pub joined : place < length old → (r : Cube) × IsJoinedCube (cube_at old place) cube r × (new ≡ slice_set old place r)
  pub begun : place ≡ length old → new ≡ old ++ (cube ∷ [])
