-- When a tree fits a fault: it is then evidence that no pattern below its Closed nodes detects the fault.
use Rattle.std.specs.Prelude.{ℕ, ◌≡◌, ⊤, not, List, [], ◌∷◌, take, slice_get, Some}
use Rattle.std.specs.List.{All}
use Rattle.statement.specs.declared.lines.Fault.{Fault}
use Rattle.statement.specs.Netlists.{Netlist}
use Rattle.statement.specs.Patterns.{Holds}
use Rattle.tri.specs.Paths.{Path, IsClosedPath, IsUnknown}
use Rattle.redundancy_cert.specs.declared.nodes.Node.{Node}
use Rattle.redundancy_cert.specs.declared.nodes.Node.TheVariants.{Closed, Open, Split, Forced}
use Rattle.redundancy_cert.specs.declared.counts.Counts.{Counts}
use Rattle.redundancy_cert.specs.declared.checking.TreeFault.{TreeFault}
use Rattle.redundancy_cert.specs.declared.checking.TreeFault.TheVariants.{BadTree, NoMemory}
use Rattle.redundancy_cert.specs.Trees.{Tree, preorder, Place, places, closed_count, open_count}

-- A Closed stands at a closed label, any other node at one that isn't closed. What is decided is a signal whose good value isn't known.
-- The other side of a Forced has a closed label.
abbrev pub NodeFits : Fault → Netlist → Holds → Path → Node → Type 0
NodeFits f n holds path Closed = IsClosedPath f n holds path
NodeFits f n holds path Open = ¬ IsClosedPath f n holds path
NodeFits f n holds path (Split x) = (¬ IsClosedPath f n holds path) × IsUnknown f n holds path x
NodeFits f n holds path (Forced x b) = (¬ IsClosedPath f n holds path) × IsUnknown f n holds path x × IsClosedPath f n holds ((x, not b) ∷ path)

abbrev pub PlaceFits : Fault → Netlist → Holds → Place → Type 0
PlaceFits f n holds p = NodeFits f n holds p.path p.node

-- every node of the tree fits, where the tree stands below these decisions
abbrev pub FitsBelow : Fault → Netlist → Holds → Path → Tree → Type 0
FitsBelow f n holds path t = All (PlaceFits f n holds) (places path t)

-- the list is a tree that fits the fault
abbrev pub Fits : Fault → Netlist → Holds → List Node → Type 0
Fits f n holds nodes = (t : Tree) × (preorder t ≡ nodes) × FitsBelow f n holds [] t

-- place i is the first one that doesn't fit
pub record IsFirstBad (f : Fault) (n : Netlist) (holds : Holds) (nodes : List Node) (i : ℕ) : Type 0 where
  pub tree : Tree
  pub is : preorder tree ≡ nodes
  pub before : All (PlaceFits f n holds) (take i (places [] tree))
  pub place : Place
  pub at : slice_get (places [] tree) i ≡ Some place
  pub bad : ¬ PlaceFits f n holds place

-- what a check answers of a tree that fits, and when it refuses
pub record AreCounts (nodes : List Node) (counts : Counts) : Type 0 where
  pub closed : counts.closed ≡ closed_count nodes
  pub left_open : counts.left_open ≡ open_count nodes

abbrev pub IsTreeFault : Fault → Netlist → Holds → List Node → TreeFault → Type 0
IsTreeFault f n holds nodes (BadTree i) = IsFirstBad f n holds nodes i
IsTreeFault f n holds nodes NoMemory = ⊤
