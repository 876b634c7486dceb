-- Trees of decisions. (The decision tree of an implicit enumeration: Goel, An implicit enumeration algorithm to generate tests
-- for combinational logic circuits, 1981.)
use Rattle.std.specs.Prelude.{ℕ, ◌≡◌, ◌+◌, Bool, true, false, List, [], ◌∷◌, ◌++◌}
use Rattle.statement.specs.Netlists.{Netlist, signals}
use Rattle.std.specs.List.{Contains}
use Rattle.tri.specs.Paths.{Path}
use Rattle.redundancy_cert.specs.declared.nodes.Node.{Node}
use Rattle.redundancy_cert.specs.declared.nodes.Node.TheVariants.{Closed, Open, Split, Forced}

-- A path ends closed or open, or a signal is split on, with a tree for its 0 and one for its 1,
-- or it is forced to a bit, with a tree for that bit alone.
pub data Tree : Type 0 where
  ClosedEnd : Tree
  OpenEnd : Tree
  SplitOn : ℕ → Tree → Tree → Tree
  ForcedTo : ℕ → Bool → Tree → Tree

-- its nodes, each before those below it
abbrev pub preorder : Tree → List Node
preorder ClosedEnd = Closed ∷ []
preorder OpenEnd = Open ∷ []
preorder (SplitOn x t u) = Split x ∷ (preorder t ++ preorder u)
preorder (ForcedTo x b t) = Forced x b ∷ preorder t

-- the list is one tree
abbrev pub IsOneTree : List Node → Type 0
IsOneTree nodes = (t : Tree) × (preorder t ≡ nodes)

-- a node and the decisions above it
pub record Place : Type 0 where
  pub path : Path
  pub node : Node

-- the nodes of a tree, each with the decisions above it, where the tree itself stands below these decisions
abbrev pub places : Path → Tree → List Place
places path ClosedEnd = record { path = path; node = Closed } ∷ []
places path OpenEnd = record { path = path; node = Open } ∷ []
places path (SplitOn x t u) = record { path = path; node = Split x } ∷ (places ((x, false) ∷ path) t ++ places ((x, true) ∷ path) u)
places path (ForcedTo x b t) = record { path = path; node = Forced x b } ∷ places ((x, b) ∷ path) t

-- how many nodes are Closed, and how many Open
abbrev pub closed_count : List Node → ℕ
closed_count [] = 0
closed_count (Closed ∷ nodes) = closed_count nodes + 1
closed_count (Open ∷ nodes) = closed_count nodes
closed_count (Split x ∷ nodes) = closed_count nodes
closed_count (Forced x b ∷ nodes) = closed_count nodes

abbrev pub open_count : List Node → ℕ
open_count [] = 0
open_count (Closed ∷ nodes) = open_count nodes
open_count (Open ∷ nodes) = open_count nodes + 1
open_count (Split x ∷ nodes) = open_count nodes
open_count (Forced x b ∷ nodes) = open_count nodes

-- each signal that is decided is one of the netlist
abbrev pub DecidesSignal : Netlist → Node → Type 0
DecidesSignal n Closed = Unit {0}
DecidesSignal n Open = Unit {0}
DecidesSignal n (Split x) = Contains (signals n) x
DecidesSignal n (Forced x b) = Contains (signals n) x
