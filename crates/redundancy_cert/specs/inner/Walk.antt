-- How the check goes over the nodes of a tree: where each subtree that is still to come will stand.
use Rattle.std.specs.Prelude.{ℕ, ◌≡◌, ◌<◌, ◌⊎◌, Bool, true, false, not, List, [], ◌∷◌, take, drop, length, None, IsTrue, if◌then◌else◌}
use Rattle.std.specs.List.{All}
use Rattle.statement.specs.declared.lines.Fault.{Fault}
use Rattle.statement.specs.Patterns.{Holds}
use Rattle.statement.specs.Netlists.{Netlist, signals}
use Rattle.tri.specs.Labelling.{decided_in}
use Rattle.tri.specs.Paths.{Path, decisions, IsClosedPath}
use Rattle.redundancy_cert.specs.declared.nodes.Node.{Node}
use Rattle.redundancy_cert.specs.declared.nodes.Node.TheVariants.{Closed, Open, Split, Forced}
use Rattle.redundancy_cert.specs.declared.steps.Step.{Step}
use Rattle.redundancy_cert.specs.Trees.{Tree, preorder, Place, places}
use Rattle.redundancy_cert.specs.Fits.{PlaceFits}
use Rattle.redundancy_cert.specs.inner.Passing.{Labelled}

-- where the subtrees to come stand, after a node below p, if those of ps come then
abbrev pub after : Path → List Path → Node → List Path
after p ps Closed = ps
after p ps Open = ps
after p ps (Split x) = ((x, false) ∷ p) ∷ ((x, true) ∷ p) ∷ ps
after p ps (Forced x b) = ((x, b) ∷ p) ∷ ps

-- the nodes, where the subtrees to come stand below these paths
abbrev pub walk : List Path → List Node → List Place
walk [] nodes = []
walk (p ∷ ps) [] = []
walk (p ∷ ps) (node ∷ nodes) = record { path = p; node = node } ∷ walk (after p ps node) nodes

-- the steps of a path, the first one first, onto a path
abbrev pub path_onto : Path → List Step → Path
path_onto p [] = p
path_onto p (s ∷ ss) = path_onto ((s.signal, s.bit) ∷ p) ss

abbrev pub path_of : List Step → Path
path_of ss = path_onto [] ss

-- where the sides of 1 stand that are still to come, the last one first
abbrev pub waiting_onto : Path → List Path → List Step → List Path
waiting_onto p ws [] = ws
waiting_onto p ws (s ∷ ss) = waiting_onto ((s.signal, s.bit) ∷ p) (if s.waiting then ((s.signal, true) ∷ p) ∷ ws else ws) ss

abbrev pub waiting_of : List Step → List Path
waiting_of ss = waiting_onto [] [] ss

-- the subtree below the path is to come, and then those that wait; or nothing is
abbrev pub StandsFor : List Step → List Path → Type 0
StandsFor ss todo = (todo ≡ []) ⊎ (todo ≡ path_of ss ∷ waiting_of ss)

-- each step decides a signal that those before it leave free
abbrev pub AreFree : Path → List Step → Type 0
AreFree p [] = Unit {0}
AreFree p (s ∷ ss) = (decisions p s.signal ≡ None) × AreFree ((s.signal, s.bit) ∷ p) ss

-- the labels are those under the steps
pub record IsAt (p : Labelled) (ss : List Step) : Type 0 where
  pub decided : decided_in p.decided ≡ decisions (path_of ss)
  pub free : AreFree [] ss
  pub within : All (λ (s : Step). s.signal < length (signals p.netlist)) ss

-- the first i nodes fit, and the path stands for what is to come
pub record IsChecked (f : Fault) (n : Netlist) (holds : Holds) (nodes : List Node) (i : ℕ) (ss : List Step) : Type 0 where
  pub tree : Tree
  pub is : preorder tree ≡ nodes
  pub todo : List Path
  pub ahead : walk todo (drop i nodes) ≡ drop i (places [] tree)
  pub stands : StandsFor ss todo
  pub before : All (PlaceFits f n holds) (take i (places [] tree))

-- what is so between two trees
pub record IsIdle (p : Labelled) (ss : List Step) : Type 0 where
  pub fault : p.fault ≡ None
  pub root : IsAt p []
  pub none : ss ≡ []

-- a forced decision that fits: the label of its other side is closed, and its side comes next
pub record IsForcedBy (f : Fault) (p : Labelled) (fits : Bool) (ss : List Step) (x : ℕ) (b : Bool) (new : List Step) : Type 0 where
  pub stands : IsTrue fits
  pub shut : IsClosedPath f p.netlist p.holds ((x, not b) ∷ path_of ss)
  pub next : StandsFor new (after (path_of ss) (waiting_of ss) (Forced x b))
