-- Where the search stands (private to this crate).
use Rattle.std.specs.Prelude.{ℕ, ◌≡◌, ◌≢◌, Bool, true, false, IsTrue, List, ◌∷◌, Some}
use Rattle.std.specs.List.{Contains}
use Rattle.statement.specs.declared.kinds.Tri.{Tri}
use Rattle.statement.specs.declared.kinds.Tri.TheVariants.{X}
use Rattle.statement.specs.Patterns.{Holds}
use Rattle.statement.specs.declared.lines.Fault.{Fault}
use Rattle.statement.specs.declared.lines.Point.{Point}
use Rattle.statement.specs.Netlists.{Netlist}
use Rattle.tri.specs.Paths.{Path, decisions, IsClosedPath, IsUnknown, IsTestPath, IsGoingPath}
use Rattle.evidence.specs.declared.engine.Found.{Found}
use Rattle.evidence.specs.declared.engine.Found.TheVariants.{Test as Tested, Closed as Whole, Refuted, Partial}
use Rattle.redundancy_cert.specs.declared.nodes.Node.{Node}
use Rattle.redundancy_cert.specs.declared.nodes.Node.TheVariants.{Closed, Open, Split, Forced}
use Rattle.redundancy_cert.specs.declared.stacks.Side.{Side}
use Rattle.redundancy_cert.specs.Trees.{Place}
use Rattle.redundancy_cert.specs.Fits.{NodeFits}
use Rattle.evidence.specs.Answers.{HasEvidence}
use Rattle.redundancy_cert.specs.Stacks.{path_of_stack, closed_around}
use Rattle.decisions.specs.declared.cases.Case.{Case}
use Rattle.pair_sim.specs.declared.states.State.{State}
use Rattle.pair_sim.specs.declared.states.State.TheVariants.{Test, Blocked, Going}
use Rattle.decisions.specs.Cases.{IsCase, sim_of, start}
use Rattle.pair_sim.specs.Sims.{Sim, assigned, HasGood}
use Rattle.decisions.specs.declared.turns.Step.{Step}
use Rattle.decisions.specs.declared.turns.Step.TheVariants.{Found as AtTest, Done, On}
use Rattle.decisions.specs.Standing.{StandsAt, SearchesAt}
use Rattle.decisions.specs.Turns.{IsSearchStep, IsOfCase}
use Rattle.podem.specs.Sources.{sources, HasSourceEvidence}

-- What stands in a tree on sources, but that an Open asks for nothing where the other sides of decisions aren't looked at.
abbrev pub StandsLooked : Bool → Fault → Netlist → Holds → Path → Node → Type 0
StandsLooked looks f n holds path Closed = IsClosedPath f n holds path
StandsLooked looks f n holds path Open = IsTrue looks → IsGoingPath f n holds path
StandsLooked looks f n holds path (Split x) = NodeFits f n holds path (Split x) × Contains (sources n holds) x
StandsLooked looks f n holds path (Forced x b) = NodeFits f n holds path (Forced x b) × Contains (sources n holds) x

abbrev pub PlaceLooked : Bool → Fault → Netlist → Holds → Place → Type 0
PlaceLooked looks f n holds p = StandsLooked looks f n holds p.path p.node

-- The stack stands for such a tree, and the simulation is at the end of its path.
abbrev pub IsAt : Case → Bool → Sim → List Side → Type 0
IsAt c looks s stack = StandsAt (PlaceLooked looks c.fault c.core.now c.holds.now) c.fault c.core.now c.holds.now s stack

-- so, and where the end of the path was looked at the search may go on
pub record MayTurn (c : Case) (looks is_seen : Bool) (s : Sim) (stack : List Side) : Type 0 where
  pub case : IsCase c
  pub at : IsAt c looks s stack
  pub going : IsTrue is_seen → IsGoingPath c.fault c.core.now c.holds.now (path_of_stack stack)

-- so, and the search may go on
pub record MayGoOn (c : Case) (looks : Bool) (s : Sim) (stack : List Side) : Type 0 where
  pub case : IsCase c
  pub at : IsAt c looks s stack
  pub going : IsGoingPath c.fault c.core.now c.holds.now (path_of_stack stack)

-- what is seen of a side; the simulation stays there for a test alone
abbrev pub IsSeen : Sim → ℕ → Bool → State → Sim → Type 0
IsSeen old x b (Test point) new = (new ≡ assigned old x b) × IsTestPath old.fault old.netlist old.holds ((x, b) ∷ old.path) point
IsSeen old x b Blocked new = (new ≡ old) × IsClosedPath old.fault old.netlist old.holds ((x, b) ∷ old.path)
IsSeen old x b Going new = (new ≡ old) × IsGoingPath old.fault old.netlist old.holds ((x, b) ∷ old.path)

-- what is seen of a side that is gone to; the simulation comes back where it is closed
abbrev pub IsGone : Sim → ℕ → Bool → State → Sim → Type 0
IsGone old x b (Test point) new = (new ≡ assigned old x b) × IsTestPath old.fault old.netlist old.holds ((x, b) ∷ old.path) point
IsGone old x b Blocked new = (new ≡ old) × IsClosedPath old.fault old.netlist old.holds ((x, b) ∷ old.path)
IsGone old x b Going new = (new ≡ assigned old x b) × IsGoingPath old.fault old.netlist old.holds ((x, b) ∷ old.path)

-- a value that is known
abbrev pub IsKnownAt : Sim → ℕ → Type 0
IsKnownAt s x = (v : Tri) × HasGood s x v × (v ≢ X)

-- a source that is X there
pub record IsFreeSource (c : Case) (stack : List Side) (x : ℕ) : Type 0 where
  pub source : Contains (sources c.core.now c.holds.now) x
  pub free : IsUnknown c.fault c.core.now c.holds.now (path_of_stack stack) x

-- so, where the search may go on
pub record IsChosen (c : Case) (looks : Bool) (s : Sim) (stack : List Side) (x : ℕ) : Type 0 where
  pub on : MayGoOn c looks s stack
  pub chosen : IsFreeSource c stack x

-- a side that is closed, and one that may be gone on with
abbrev pub IsClosedSide : Case → List Side → ℕ → Bool → Type 0
IsClosedSide c stack x b = IsClosedPath c.fault c.core.now c.holds.now ((x, b) ∷ path_of_stack stack)

abbrev pub IsGoingSide : Case → List Side → ℕ → Bool → Type 0
IsGoingSide c stack x b = IsGoingPath c.fault c.core.now c.holds.now ((x, b) ∷ path_of_stack stack)

-- the decisions of a path are on sources
abbrev pub OnSources : Netlist → Holds → Path → Type 0
OnSources n holds path = (x : ℕ) (b : Bool) → decisions path x ≡ Some b → Contains (sources n holds) x

pub record IsTestAt (c : Case) (s : Sim) (point : Point) : Type 0 where
  pub path : Path
  pub at : s ≡ sim_of c path
  pub test : IsTestPath c.fault c.core.now c.holds.now path point
  pub only : OnSources c.core.now c.holds.now path

-- a decision more is gone on with
abbrev pub IsEndSeen : Sim → Step → Type 0
IsEndSeen s (AtTest point) = Unit {0}
IsEndSeen s (Done tree) = Unit {0}
IsEndSeen s (On true) = Unit {0}
IsEndSeen s (On false) = IsGoingPath s.fault s.netlist s.holds s.path

-- after a turn
abbrev pub IsStepped : Case → Bool → List Side → Sim → List Side → Step → Type 0
IsStepped c looks old s new step =
    IsSearchStep (PlaceLooked looks c.fault c.core.now c.holds.now) (IsTestAt c) c.fault c.core.now c.holds.now old (closed_around old) s new step
    × IsEndSeen s step

-- The search has given up: so many are Closed.
abbrev pub HasGivenUp : Case → Bool → ℕ → Sim → List Side → Type 0
HasGivenUp c looks limit s stack = SearchesAt (PlaceLooked looks c.fault c.core.now c.holds.now) c.fault c.core.now c.holds.now s stack limit

-- labels before any decision of a case
pub record IsReady (c : Case) (s : Sim) : Type 0 where
  pub case : IsCase c
  pub begins : s ≡ start c

-- labels of the case, after some decisions
abbrev pub IsKept : Case → Sim → Type 0
IsKept c s = IsOfCase c.fault c.core.now c.holds.now s

-- labels of the case, after decisions on sources alone
pub record AreOnSources (c : Case) (s : Sim) : Type 0 where
  pub at : IsKept c s
  pub only : OnSources c.core.now c.holds.now s.path

-- what a search answers
pub record IsAnswer (c : Case) (limit : ℕ) (found : Found) : Type 0 where
  pub evidence : HasEvidence c.fault c.core.now c.holds.now limit found
  pub sources : HasSourceEvidence c.fault c.core.now c.holds.now limit found

-- what it answers where it doesn't give up
abbrev pub IsSettled : Case → ℕ → Found → Type 0
IsSettled c limit (Tested cube point) = IsAnswer c limit (Tested cube point)
IsSettled c limit (Whole tree) = IsAnswer c limit (Whole tree)
IsSettled c limit (Refuted steps) = ⊥
IsSettled c limit (Partial tree) = ⊥
