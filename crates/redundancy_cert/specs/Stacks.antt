-- Where a search stands in its tree: the decisions on the path, the first one first, each with what is known of its other side.
-- The stack stands for a tree: its path ends open, and sides that were not searched are Open.
-- (The decision stack of Goel 1981, each entry flagged once its other value has been tried.)
use Rattle.std.specs.Prelude.{ℕ, ◌≡◌, ◌+◌, Bool, not, List, [], ◌∷◌, ◌++◌, if◌then◌else◌}
use Rattle.std.specs.List.{All}
use Rattle.tri.specs.Paths.{Path}
use Rattle.redundancy_cert.specs.declared.nodes.Node.{Node}
use Rattle.redundancy_cert.specs.declared.nodes.Node.TheVariants.{Open, Split, Forced}
use Rattle.redundancy_cert.specs.declared.stacks.Other.{Other}
use Rattle.redundancy_cert.specs.declared.stacks.Other.TheVariants.{Untried, Searched, Shut}
use Rattle.redundancy_cert.specs.declared.stacks.Side.{Side}
use Rattle.redundancy_cert.specs.declared.stacks.Turn.{Turn}
use Rattle.redundancy_cert.specs.declared.stacks.Turn.TheVariants.{Turned, Climbed}
use Rattle.redundancy_cert.specs.Trees.{Tree, preorder, Place, places, closed_count, open_count}

-- the nodes of the other side of a decision
abbrev pub other_nodes : Other → List Node
other_nodes Untried = Open ∷ []
other_nodes (Searched tree) = tree.items
other_nodes Shut = []

-- a decision whose other side is shut is forced
abbrev pub node_of : ℕ → Bool → Other → Node
node_of x b Untried = Split x
node_of x b (Searched tree) = Split x
node_of x b Shut = Forced x b

-- a decision as a tree, where these nodes stand on the side that is searched
abbrev pub wrapped : Side → List Node → List Node
wrapped s nodes = node_of s.signal s.bit s.other ∷ (if s.bit then other_nodes s.other ++ nodes else nodes ++ other_nodes s.other)

-- THE TREE OF A STACK, where these nodes stand at the end of its path
abbrev pub stack_tree : List Side → List Node → List Node
stack_tree [] nodes = nodes
stack_tree (s ∷ ss) nodes = wrapped s (stack_tree ss nodes)

-- the decisions of a stack, onto a path
abbrev pub stack_onto : Path → List Side → Path
stack_onto p [] = p
stack_onto p (s ∷ ss) = stack_onto ((s.signal, s.bit) ∷ p) ss

abbrev pub path_of_stack : List Side → Path
path_of_stack ss = stack_onto [] ss

-- the nodes are a tree of which all is as it should be, where the tree stands below the path
abbrev pub StandsBelow : (Place → Type 0) → Path → List Node → Type 0
StandsBelow P path nodes = (t : Tree) × (preorder t ≡ nodes) × All P (places path t)

-- so is the other side of a decision
abbrev pub OtherStands : (Place → Type 0) → Path → Other → Type 0
OtherStands P path Untried = StandsBelow P path (Open ∷ [])
OtherStands P path (Searched tree) = StandsBelow P path tree.items
OtherStands P path Shut = Unit {0}

-- all of the stack is as it should be, where it stands below p
abbrev pub StandsAround : (Place → Type 0) → Path → List Side → Type 0
StandsAround P p [] = Unit {0}
StandsAround P p (s ∷ ss) =
    P (record { path = p; node = node_of s.signal s.bit s.other })
    × OtherStands P ((s.signal, not s.bit) ∷ p) s.other
    × StandsAround P ((s.signal, s.bit) ∷ p) ss

-- how many nodes around the end of the path are Closed, and how many Open
abbrev pub closed_around : List Side → ℕ
closed_around [] = 0
closed_around (s ∷ ss) = closed_count (other_nodes s.other) + closed_around ss

abbrev pub open_around : List Side → ℕ
open_around [] = 0
open_around (s ∷ ss) = open_count (other_nodes s.other) + open_around ss

-- how many Open stand in the other side, where it was searched
abbrev pub searched_open : Other → ℕ
searched_open Untried = 0
searched_open (Searched tree) = open_count tree.items
searched_open Shut = 0

-- how many Open stand in sides that were searched
abbrev pub searched_open_around : List Side → ℕ
searched_open_around [] = 0
searched_open_around (s ∷ ss) = searched_open s.other + searched_open_around ss

-- The search of the last decision's side has ended with this tree, where it stood at the end of the path. Then the search stands
-- on the other side, if that was untried; else the decision is a tree, and the search of the one before has ended with it.
pub record IsFlipped (done : List Node) (old new : List Side) : Type 0 where
  pub front : List Side
  pub last : Side
  pub next : Side
  pub was : old ≡ front ++ last ∷ []
  pub is : new ≡ front ++ next ∷ []
  pub signal : next.signal ≡ last.signal
  pub bit : next.bit ≡ not last.bit
  pub untried : last.other ≡ Untried
  pub searched : other_nodes next.other ≡ done
  pub split : node_of next.signal next.bit next.other ≡ Split next.signal

pub record IsClimbed (done : List Node) (old new : List Side) (tree : List Node) : Type 0 where
  pub last : Side
  pub was : old ≡ new ++ last ∷ []
  pub is : tree ≡ wrapped last done
  pub tried : open_count (other_nodes last.other) ≡ searched_open last.other

abbrev pub IsSideEnd : List Node → List Side → List Side → Turn → Type 0
IsSideEnd done old new Turned = IsFlipped done old new
IsSideEnd done old new (Climbed tree) = IsClimbed done old new tree.items
