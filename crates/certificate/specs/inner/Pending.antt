-- How many trees are still to come, node by node.
use Rattle.std.specs.Prelude.{ℕ, zero, suc, ◌+◌, Bool, true, false, List, [], ◌∷◌}
use Rattle.redundancy_cert.specs.declared.nodes.Node.{Node}
use Rattle.redundancy_cert.specs.declared.nodes.Node.TheVariants.{Closed, Open, Split, Forced}

-- behind a node that begins one tree where so many others are to come
abbrev pub still : Node → ℕ → ℕ
still Closed others = others
still Open others = others
still (Split x) others = others + 2
still (Forced x b) others = others + 1

-- the nodes are so many trees
abbrev pub are_trees : ℕ → List Node → Bool
are_trees zero [] = true
are_trees zero (node ∷ nodes) = false
are_trees (suc others) [] = false
are_trees (suc others) (node ∷ nodes) = are_trees (still node others) nodes
