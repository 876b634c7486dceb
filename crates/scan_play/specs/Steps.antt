-- Which gates the cycles of a burst have to evaluate. What settles where all that changes is X stays wherever it is known; of the other gates
-- only those count that a cell's pin or a strobed output reads, by way of gates. (Constants folded, as in compiled-code simulation.)
use Rattle.std.specs.Prelude.{ℕ, ◌≡◌, ◌≢◌, ◌<◌, ◌⊎◌, false, List, length, map, take, slice_get, slice_index, Some}
use Rattle.std.specs.List.{All, Contains}
use Rattle.statement.specs.declared.kinds.Tri.{Tri}
use Rattle.statement.specs.declared.kinds.Tri.TheVariants.{X}
use Rattle.statement.specs.Netlists.{Definition, Netlist, cells, gates}
use Rattle.netlist.specs.Netlist.{IsGateAt}
use Rattle.netlist.specs.Settled.{at}
use Rattle.netlist.specs.ThreeValues.{is_x}

-- a gate's value that stays through the burst
abbrev pub Stays : Netlist → List Tri → ℕ → Type 0
Stays n base x = IsGateAt n x × (is_x (at base X x) ≡ false)

-- The value of a signal is there: it is an input or a cell, or it stays, or its gate is one of those evaluated so far.
abbrev pub IsReady : Netlist → List Tri → List ℕ → ℕ → Type 0
IsReady n base done x = Contains n.inputs x ⊎ (Contains (map (λ (d : Definition). d.id) (cells n)) x ⊎ (Stays n base x ⊎ Contains done x))

-- gates, each of which reads only what is ready when it is evaluated
pub record AreOrderedSteps (n : Netlist) (base : List Tri) (steps : List ℕ) : Type 0 where
  pub are_gates : All (IsGateAt n) steps
  pub reads : (m : ℕ) (g : Definition) → m < length steps → Contains (gates n) g → g.id ≡ slice_index steps m → All (IsReady n base (take m steps)) g.pins

-- what evaluating these gates makes ready: all that the cells and the strobed outputs read
pub record HasSteps (n : Netlist) (strobe base : List Tri) (steps : List ℕ) : Type 0 where
  pub path : AreOrderedSteps n base steps
  pub cells_ready : All (λ (d : Definition). All (IsReady n base steps) d.pins) (cells n)
  pub outputs_ready : (k : ℕ) → k < length n.outputs → slice_get strobe k ≢ Some X → IsReady n base steps (slice_index n.outputs k)
