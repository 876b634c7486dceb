-- How the gates of a burst's cycles are chosen, and how its cycles are played by them.
use Rattle.std.specs.Prelude.{ℕ, ◌≡◌, ◌≢◌, ◌-◌, ◌<◌, Bool, true, List, ◌++◌, map, length, replicate, slice_get, slice_index, Option, Some}
use Rattle.std.specs.List.{All}
use Rattle.statement.specs.declared.kinds.Tri.{Tri}
use Rattle.statement.specs.declared.kinds.Tri.TheVariants.{X}
use Rattle.statement.specs.declared.lines.Fault.{Fault}
use Rattle.statement.specs.Netlists.{Definition, Netlist, cells, signals}
use Rattle.statement.specs.Values.{Settles, known}
use Rattle.netlist.specs.Settled.{at}
use Rattle.tri.specs.Settled.{tris}
use Rattle.scan_play.specs.Steps.{HasSteps, IsReady, Stays}

-- the table says that each of these signals is ready
abbrev pub AreMarked : List Bool → List ℕ → Type 0
AreMarked ready xs = All (λ x. slice_get ready x ≡ Some true) xs

-- what a table says is ready
abbrev pub AreReady : Netlist → List Tri → List ℕ → List Bool → Type 0
AreReady n base done ready = (x : ℕ) → slice_get ready x ≡ Some true → IsReady n base done x

-- what is read at the end is marked: at the cells' pins and at strobed outputs
abbrev pub AreCellsMarked : Netlist → List Bool → Type 0
AreCellsMarked n ready = All (λ (d : Definition). AreMarked ready d.pins) (cells n)

abbrev pub AreOutputsMarked : Netlist → List Tri → List Bool → Type 0
AreOutputsMarked n strobe ready = (k : ℕ) → k < length n.outputs → slice_get strobe k ≢ Some X → slice_get ready (slice_index n.outputs k) ≡ Some true

-- With these values every cycle of a burst can be played by these steps.
pub record IsPlanned (f : Option Fault) (n : Netlist) (drive : List Bool) (strobe : List Tri) (steps : List ℕ) (values : List Tri) : Type 0 where
  pub base : List Tri
  pub settles : Settles (tris f) n (map known drive ++ replicate (length n.inputs - length drive) X) (replicate (length (cells n)) X) (at base X)
  pub has : HasSteps n strobe base steps
  pub size : length values ≡ length (signals n)
  pub stand : (x : ℕ) → Stays n base x → at values X x ≡ at base X x

-- The values are what settles, wherever they are ready.
abbrev pub AreSettled : Netlist → List Tri → List ℕ → (ℕ → Tri) → List Tri → Type 0
AreSettled n base done settled values = (x : ℕ) → IsReady n base done x → at values X x ≡ settled x
