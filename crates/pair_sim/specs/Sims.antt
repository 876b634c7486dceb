-- A simulation of the good and the faulty netlist under held inputs and a path of decisions. Contracts see the netlist, the fault, the holds
-- and the path alone: how labels are kept is no part of the value.
use Rattle.std.specs.Prelude.{ℕ, ◌≡◌, ◌≢◌, ◌≤◌, ◌==◌, ◌↔◌, Bool, List, [], ◌∷◌, Some}
use Rattle.std.specs.List.{All, Contains, count_by}
use Rattle.statement.specs.declared.kinds.Tri.{Tri}
use Rattle.statement.specs.declared.lines.Fault.{Fault}
use Rattle.statement.specs.Netlists.{Netlist, signals}
use Rattle.statement.specs.Patterns.{Holds}
use Rattle.tri.specs.declared.labels.Label.{Label}
use Rattle.tri.specs.Labels.{AreLabels, IsContradicted}
use Rattle.tri.specs.Paths.{Path, decisions, IsClosedPath, IsUnknown, IsTestPath, IsGoingPath}
use Rattle.pair_sim.specs.declared.states.State.{State}
use Rattle.pair_sim.specs.declared.states.State.TheVariants.{Test, Blocked, Going}

pub record Sim : Type 0 where
  pub netlist : Netlist
  pub fault : Fault
  pub holds : Holds
  -- the assigns that were not undone, the last one first
  pub path : Path

abbrev pub sim : Netlist → Fault → Holds → Path → Sim
sim n f holds path = record { netlist = n; fault = f; holds = holds; path = path }

abbrev pub assigned : Sim → ℕ → Bool → Sim
assigned s x b = record s { path = (x, b) ∷ s.path }

abbrev pub without_last : Path → Path
without_last [] = []
without_last (d ∷ ds) = ds

abbrev pub backtracked : Sim → Sim
backtracked s = record s { path = without_last s.path }

-- the labels of the path
abbrev pub AreLabelsOf : Sim → (ℕ → Label) → Type 0
AreLabelsOf s label = AreLabels (Some s.fault) (decisions s.path) s.netlist s.holds label

-- the signal's label under the path has this value without the fault
pub record HasGood (s : Sim) (x : ℕ) (value : Tri) : Type 0 where
  pub label : ℕ → Label
  pub are : AreLabelsOf s label
  pub good : (label x).good ≡ value

-- so the value that its pins tell, that with the fault, and whether the two may differ
pub record HasOwn (s : Sim) (x : ℕ) (value : Tri) : Type 0 where
  pub label : ℕ → Label
  pub are : AreLabelsOf s label
  pub own : (label x).own ≡ value

pub record HasFaulty (s : Sim) (x : ℕ) (value : Tri) : Type 0 where
  pub label : ℕ → Label
  pub are : AreLabelsOf s label
  pub faulty : (label x).faulty ≡ value

pub record MayDiffer (s : Sim) (x : ℕ) (differs : Bool) : Type 0 where
  pub label : ℕ → Label
  pub are : AreLabelsOf s label
  pub may_differ : (label x).may_differ ≡ differs

-- a decision is contradicted
pub record HasContradiction (s : Sim) : Type 0 where
  pub label : ℕ → Label
  pub are : AreLabelsOf s label
  pub contradicted : IsContradicted (decisions s.path) s.netlist label

-- the signal has this label
pub record HasLabel (s : Sim) (x : ℕ) (value : Label) : Type 0 where
  pub label : ℕ → Label
  pub are : AreLabelsOf s label
  pub is : label x ≡ value

-- no decision is contradicted, and some point may differ
abbrev pub IsNotBlocked : Sim → Type 0
IsNotBlocked s = ¬ IsClosedPath s.fault s.netlist s.holds s.path

-- A point's values are known and differ, the first such; or the label is closed; or neither.
abbrev pub IsState : Sim → State → Type 0
IsState s (Test point) = IsTestPath s.fault s.netlist s.holds s.path point
IsState s Blocked = IsClosedPath s.fault s.netlist s.holds s.path
IsState s Going = IsGoingPath s.fault s.netlist s.holds s.path

-- what may be assigned: a signal that is X
abbrev pub IsFree : Sim → ℕ → Type 0
IsFree s x = IsUnknown s.fault s.netlist s.holds s.path x

-- These are exactly the signals whose label isn't that of the path without decisions, each at most four times.
pub record AreChangedSignals (s : Sim) (ids : List ℕ) : Type 0 where
  pub start : ℕ → Label
  pub start_are : AreLabelsOf (record s { path = [] }) start
  pub label : ℕ → Label
  pub are : AreLabelsOf s label
  pub signals_are : All (Contains (signals s.netlist)) ids
  pub exact : (x : ℕ) → Contains (signals s.netlist) x → Contains ids x ↔ (start x ≢ label x)
  pub few : (x : ℕ) → count_by (λ y. y == x) ids ≤ 4
