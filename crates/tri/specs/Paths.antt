-- Decisions one after the other, and what the labels under them tell of the path.
use Rattle.std.specs.Prelude.{ℕ, ◌≡◌, ◌==◌, ◌&&◌, ◌||◌, Bool, List, [], ◌∷◌, Some, None, take, slice_get, IsTrue, IsFalse, if◌then◌else◌}
use Rattle.std.specs.List.{All, Contains}
use Rattle.statement.specs.declared.kinds.Tri.TheVariants.{X}
use Rattle.statement.specs.declared.lines.Fault.{Fault}
use Rattle.statement.specs.declared.lines.Point.{Point}
use Rattle.statement.specs.declared.lines.Point.TheVariants.{Output, Cell}
use Rattle.statement.specs.Netlists.{Netlist, signals}
use Rattle.statement.specs.Values.{outs, next}
use Rattle.statement.specs.Patterns.{Holds}
use Rattle.netlist.specs.ThreeValues.{is_zero, is_one}
use Rattle.tri.specs.declared.labels.Label.{Label}
use Rattle.tri.specs.Labels.{Decisions, labels, AreLabels, IsContradicted, IsClosedAt}

-- a path of decisions, the last one first: each puts a bit onto a signal
abbrev pub Path : Type 0
Path = List (ℕ × Bool)

-- the decided bits of a path
abbrev pub decisions : Path → Decisions
decisions [] x = None
decisions (d ∷ ds) x = if x == d.0 then Some d.1 else decisions ds x

-- the label of the path is closed
pub record IsClosedPath (f : Fault) (n : Netlist) (holds : Holds) (path : Path) : Type 0 where
  pub label : ℕ → Label
  pub are : AreLabels (Some f) (decisions path) n holds label
  pub closed : IsClosedAt f (decisions path) n label

-- the signal's value without the fault isn't known
pub record IsUnknown (f : Fault) (n : Netlist) (holds : Holds) (path : Path) (x : ℕ) : Type 0 where
  pub label : ℕ → Label
  pub are : AreLabels (Some f) (decisions path) n holds label
  pub signal : Contains (signals n) x
  pub unknown : (label x).good ≡ X

-- both values are known, and they differ: the fault's effect (D or its complement)
abbrev pub has_effect : Label → Bool
has_effect l = is_zero l.good && is_one l.faulty || is_one l.good && is_zero l.faulty

-- nowhere in the list
abbrev pub HaveNoEffect : List Label → Type 0
HaveNoEffect ls = All (λ l. IsFalse (has_effect l)) ls

-- first at place k
pub record IsFirstEffect (ls : List Label) (k : ℕ) : Type 0 where
  pub label : Label
  pub here : slice_get ls k ≡ Some label
  pub effect : IsTrue (has_effect label)
  pub before : HaveNoEffect (take k ls)

-- first at this observed point: outputs come before cells
abbrev pub IsFirstPoint : List Label → List Label → Point → Type 0
IsFirstPoint outputs cells (Output k) = IsFirstEffect outputs k
IsFirstPoint outputs cells (Cell k) = HaveNoEffect outputs × IsFirstEffect cells k

-- no decision is contradicted, and this is the first point whose values are known and differ
pub record IsTestPath (f : Fault) (n : Netlist) (holds : Holds) (path : Path) (point : Point) : Type 0 where
  pub label : ℕ → Label
  pub are : AreLabels (Some f) (decisions path) n holds label
  pub possible : ¬ IsContradicted (decisions path) n label
  pub first : IsFirstPoint (outs (labels (Some f) (decisions path)) n label) (next (labels (Some f) (decisions path)) n label) point

-- the label isn't closed, and there is no such point
pub record IsGoingPath (f : Fault) (n : Netlist) (holds : Holds) (path : Path) : Type 0 where
  pub label : ℕ → Label
  pub are : AreLabels (Some f) (decisions path) n holds label
  pub left_open : ¬ IsClosedAt f (decisions path) n label
  pub outputs : HaveNoEffect (outs (labels (Some f) (decisions path)) n label)
  pub cells : HaveNoEffect (next (labels (Some f) (decisions path)) n label)
