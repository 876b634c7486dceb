-- Cubes: patterns some of whose bits are left open.
use Rattle.std.specs.Prelude.{ℕ, ◌≡◌, Bool, not, List, ◌++◌, length, map, replicate, slice_index_or, Some}
use Rattle.std.specs.List.{slice_get}
use Rattle.statement.specs.declared.kinds.Tri.{Tri}
use Rattle.statement.specs.declared.kinds.Tri.TheVariants.{X}
use Rattle.statement.specs.Values.{known}
use Rattle.netlist.specs.ThreeValues.{AreAllowed}
use Rattle.statement.specs.Netlists.{Netlist, cells}
use Rattle.statement.specs.Patterns.{Holds, Obeys, Pattern}
use Rattle.tri.specs.Labels.{held_value}

-- the same in three values: an X is a bit that is left open
pub record Cube : Type 0 where
  pub inputs : List Tri
  pub cells : List Tri

-- the places of a cube: inputs, then cells
abbrev pub row : Cube → List Tri
row c = c.inputs ++ c.cells

-- it has this bit at place k
abbrev pub HasBit : Cube → ℕ → Bool → Type 0
HasBit c k b = slice_index_or (row c) k X ≡ known b

-- somewhere one has a bit where the other has the other bit
abbrev pub Contradicts : Cube → Cube → Type 0
Contradicts c d = (k : ℕ) × (b : Bool) × HasBit c k b × HasBit d k (not b)

abbrev pub HasBitsOf : Cube → Cube → Type 0
HasBitsOf r c = (k : ℕ) (b : Bool) → HasBit c k b → HasBit r k b

pub record HaveSameWidths (c d : Cube) : Type 0 where
  pub inputs : length c.inputs ≡ length d.inputs
  pub cells : length c.cells ≡ length d.cells

-- the pattern has the bits of the cube
pub record AgreesWith (p : Pattern) (c : Cube) : Type 0 where
  pub inputs : AreAllowed c.inputs p.inputs
  pub cells : AreAllowed c.cells p.cells

-- a bit for each input and each cell of the netlist, and each held input has its bit
pub record IsPatternOf (n : Netlist) (holds : Holds) (p : Pattern) : Type 0 where
  pub inputs : length p.inputs ≡ length n.inputs
  pub cells : length p.cells ≡ length (cells n)
  pub obeys : Obeys holds p.inputs

-- the same of a cube: a held input isn't left open
pub record IsCubeOf (n : Netlist) (holds : Holds) (c : Cube) : Type 0 where
  pub inputs : length c.inputs ≡ length n.inputs
  pub cells : length c.cells ≡ length (cells n)
  pub held : (k : ℕ) (b : Bool) → slice_get holds k ≡ Some (Some b) → slice_get c.inputs k ≡ Some (known b)

-- the cube that leaves each bit open but those of held inputs
abbrev pub open_cube : Netlist → Holds → Cube
open_cube n holds = record { inputs = map held_value holds; cells = replicate (length (cells n)) X }
