-- Where a search stands in its tree. P is what the search asks of a node at its place.
use Rattle.std.specs.Prelude.{ℕ, ◌≡◌, Bool, not, List, [], ◌∷◌}
use Rattle.std.specs.List.{Contains}
use Rattle.statement.specs.declared.lines.Fault.{Fault}
use Rattle.statement.specs.Patterns.{Holds}
use Rattle.statement.specs.Netlists.{Netlist}
use Rattle.tri.specs.Paths.{Path, IsClosedPath, IsUnknown}
use Rattle.pair_sim.specs.Sims.{Sim, sim}
use Rattle.redundancy_cert.specs.declared.nodes.Node.{Node}
use Rattle.redundancy_cert.specs.declared.nodes.Node.TheVariants.{Open, Split, Forced}
use Rattle.redundancy_cert.specs.declared.stacks.Other.{Other}
use Rattle.redundancy_cert.specs.declared.stacks.Side.{Side}
use Rattle.redundancy_cert.specs.Trees.{Place, closed_count, open_count}
use Rattle.redundancy_cert.specs.Fits.{PlaceFits}
use Rattle.redundancy_cert.specs.Stacks.{node_of, path_of_stack, StandsBelow, OtherStands, StandsAround, closed_around, searched_open, searched_open_around}

-- a search asks at least that a node fits; and that what is split on is one of these signals
abbrev pub AsksFit : (Place → Type 0) → Fault → Netlist → Holds → Type 0
AsksFit P f n holds = (p : Place) → P p → PlaceFits f n holds p

abbrev pub SplitsAmong : (Place → Type 0) → List ℕ → Type 0
SplitsAmong P ids = (path : Path) (x : ℕ) → P (record { path = path; node = Split x }) → Contains ids x

-- The stack stands for a tree of which all is as asked, and the simulation is at the end of its path.
pub record StandsAt (P : Place → Type 0) (f : Fault) (n : Netlist) (holds : Holds) (s : Sim) (stack : List Side) : Type 0 where
  pub at : s ≡ sim n f holds (path_of_stack stack)
  pub around : StandsAround P [] stack
  pub searched : searched_open_around stack ≡ 0

-- so, an Open may stand there, and so many are Closed
pub record SearchesAt (P : Place → Type 0) (f : Fault) (n : Netlist) (holds : Holds) (s : Sim) (stack : List Side) (closed : ℕ) : Type 0 where
  pub is : StandsAt P f n holds s stack
  pub going : P (record { path = path_of_stack stack; node = Open })
  pub counted : closed ≡ closed_around stack

-- a signal that isn't known there, and may be forced where a side of it is closed
pub record MayDecide (P : Place → Type 0) (f : Fault) (n : Netlist) (holds : Holds) (s : Sim) (stack : List Side) (x : ℕ) : Type 0 where
  pub is : StandsAt P f n holds s stack
  pub free : IsUnknown f n holds (path_of_stack stack) x
  pub forced : (b : Bool) → IsClosedPath f n holds ((x, not b) ∷ path_of_stack stack) → P (record { path = path_of_stack stack; node = Forced x b })

-- a decision that may be put onto the stack
pub record MayPush (P : Place → Type 0) (f : Fault) (n : Netlist) (holds : Holds) (s : Sim) (stack : List Side) (x : ℕ) (b : Bool) (other : Other) : Type 0 where
  pub is : StandsAt P f n holds s stack
  pub free : IsUnknown f n holds (path_of_stack stack) x
  pub fits : P (record { path = path_of_stack stack; node = node_of x b other })
  pub stands : OtherStands P ((x, not b) ∷ path_of_stack stack) other
  pub searched : searched_open other ≡ 0
  pub going : P (record { path = (x, b) ∷ path_of_stack stack; node = Open })

-- a tree without Open stands at the end of the path
pub record MayEnd (P : Place → Type 0) (f : Fault) (n : Netlist) (holds : Holds) (s : Sim) (stack : List Side) (done : List Node) : Type 0 where
  pub is : StandsAt P f n holds s stack
  pub stands : StandsBelow P (path_of_stack stack) done
  pub closed : open_count done ≡ 0

-- a whole tree without Open, of so many Closed
pub record IsClosedTree (P : Place → Type 0) (tree : List Node) (closed : ℕ) : Type 0 where
  pub tree_is : StandsBelow P [] tree
  pub none_open : open_count tree ≡ 0
  pub counted : closed_count tree ≡ closed
