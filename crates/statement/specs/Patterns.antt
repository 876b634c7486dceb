-- Patterns, the inputs that the tester holds, and what a pattern detects of a fault.
use Rattle.std.specs.Prelude.{Bool, List, Option, ℕ, ◌≡◌, Some, ◌≢◌, None, ◌<◌, ⊤}
use Rattle.std.specs.List.{slice_get}
use Rattle.statement.specs.declared.lines.Fault.{Fault}
use Rattle.statement.specs.declared.lines.Point.{Point}
use Rattle.statement.specs.declared.lines.Point.TheVariants.{Output, Cell}
use Rattle.statement.specs.Netlists.{Netlist}
use Rattle.statement.specs.Values.{Rule, outs, next, Settles, bits}

-- for each input the bit at which it is held, if any
abbrev pub Holds : Type 0
Holds = List (Option Bool)

-- each held input has its bit
abbrev pub Obeys : Holds → List Bool → Type 0
Obeys holds inputs = (k : ℕ) (b : Bool) → slice_get holds k ≡ Some (Some b) → slice_get inputs k ≡ Some b

-- a bit for each input and for each cell
pub record Pattern : Type 0 where
  pub inputs : List Bool
  pub cells : List Bool

-- the value at an observed point: at an output, or at a cell's pin
abbrev pub observed : {V : Type 0} → Rule V → Netlist → (ℕ → V) → Point → Option V
observed rule n a (Output k) = slice_get (outs rule n a) k
observed rule n a (Cell k) = slice_get (next rule n a) k

-- Under the pattern, bits for inputs and cells, the point has different bits with and without the fault.
pub record Detects (n : Netlist) (f : Fault) (inputs state : List Bool) (point : Point) : Type 0 where
  pub good : ℕ → Bool
  pub faulty : ℕ → Bool
  pub good_settles : Settles (bits None) n inputs state good
  pub faulty_settles : Settles (bits (Some f)) n inputs state faulty
  pub differs : observed (bits None) n good point ≢ observed (bits (Some f)) n faulty point

-- the pattern at this place of the list detects the fault at the point
pub record IsDetectedAt (n : Netlist) (patterns : List Pattern) (f : Fault) (place : ℕ) (point : Point) : Type 0 where
  pub pattern : Pattern
  pub at : slice_get patterns place ≡ Some pattern
  pub detects : Detects n f pattern.inputs pattern.cells point

-- observed points in order: outputs, then cells
abbrev pub IsBefore : Point → Point → Type 0
IsBefore (Output j) (Output k) = j < k
IsBefore (Output j) (Cell k) = ⊤
IsBefore (Cell j) (Output k) = ⊥
IsBefore (Cell j) (Cell k) = j < k

-- the last pattern of the list that detects the fault, and the first point at which it does
pub record IsLastDetected (n : Netlist) (patterns : List Pattern) (f : Fault) (place : ℕ) (point : Point) : Type 0 where
  pub here : IsDetectedAt n patterns f place point
  pub last : (later : ℕ) (p : Point) → place < later → ¬ IsDetectedAt n patterns f later p
  pub first : (p : Point) → IsBefore p point → ¬ IsDetectedAt n patterns f place p
