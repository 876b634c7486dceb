-- So many trees one behind the other, by the count of those still to come.
use Rattle.std.proofs.Common.{zero, suc, ◌≡◌, ℕ, ◌+◌, ◌-◌, ◌<◌, ◌≤◌, Bool, true, false, List, [], ◌∷◌, ◌++◌, length, drop, get_or, nat_eq, refl, sym, ap, ◌∙◌, arith, append_assoc}
use Rattle.std.specs.List.{flat_map}
use Rattle.std.proofs.lemmas.List.{append-nil, drop_all}
use Rattle.std.proofs.Math.Seq.{drop-cons}
use Rattle.std.proofs.lemmas.Bool.Decides.{nat_tests}
use Rattle.redundancy_cert.specs.declared.nodes.Node.{Node}
use Rattle.redundancy_cert.specs.declared.nodes.Node.TheVariants.{Closed, Open, Split, Forced}
use Rattle.redundancy_cert.specs.Trees.{Tree, ClosedEnd, OpenEnd, SplitOn, ForcedTo, preorder, IsOneTree}
use Rattle.certificate.specs.inner.Pending.{still, are_trees}

more_trees : (nodes : List Node) (a b : ℕ) → a ≡ b → are_trees a nodes ≡ are_trees b nodes
more_trees nodes a b e = ap (λ k. are_trees k nodes) e

-- a tree in front is one of them
tree_first : (t : Tree) (k : ℕ) (rest : List Node) → are_trees (suc k) (preorder t ++ rest) ≡ are_trees k rest
tree_first ClosedEnd k rest = refl
tree_first OpenEnd k rest = refl
tree_first (SplitOn x t u) k rest =
    let two : k + 2 ≡ suc (suc k) = omega arith in
    more_trees ((preorder t ++ preorder u) ++ rest) (k + 2) (suc (suc k)) two
    ∙ (ap (λ ns. are_trees (suc (suc k)) ns) (append_assoc (preorder t) (preorder u) rest)
    ∙ (tree_first t (suc k) (preorder u ++ rest) ∙ tree_first u k rest))
tree_first (ForcedTo x b t) k rest =
    let one : k + 1 ≡ suc k = omega arith in
    more_trees (preorder t ++ rest) (k + 1) (suc k) one ∙ tree_first t k rest

pub one_tree_counts : (nodes : List Node) → IsOneTree nodes → are_trees 1 nodes ≡ true
one_tree_counts nodes w =
    ap (are_trees 1) (sym w.1 ∙ sym (append-nil (preorder w.0))) ∙ tree_first w.0 0 []

-- so many trees that make the nodes
record AreForest (k : ℕ) (nodes : List Node) : Type 0 where
  trees : List Tree
  count : length trees ≡ k
  made : flat_map preorder trees ≡ nodes

split_off : (x k : ℕ) (nodes : List Node) (trees : List Tree) → length trees ≡ k + 2 → flat_map preorder trees ≡ nodes → AreForest (suc k) (Split x ∷ nodes)
split_off x k nodes [] size made = absurd (omega arith)
split_off x k nodes (t ∷ []) size made = absurd (omega arith)
split_off x k nodes (t ∷ u ∷ trees) size made = record {
  trees = SplitOn x t u ∷ trees;
  count = (let less : suc (length trees) ≡ suc k = omega arith in less);
  made = ap (λ ns. Split x ∷ ns) (append_assoc (preorder t) (preorder u) (flat_map preorder trees) ∙ made);
}

force_off : (x : ℕ) (b : Bool) (k : ℕ) (nodes : List Node) (trees : List Tree) → length trees ≡ k + 1 → flat_map preorder trees ≡ nodes → AreForest (suc k) (Forced x b ∷ nodes)
force_off x b k nodes [] size made = absurd (omega arith)
force_off x b k nodes (t ∷ trees) size made = record {
  trees = ForcedTo x b t ∷ trees;
  count = (let less : suc (length trees) ≡ suc k = omega arith in less);
  made = ap (λ ns. Forced x b ∷ ns) made;
}

forest_from : (k : ℕ) (nodes : List Node) → are_trees k nodes ≡ true → AreForest k nodes
forest_from zero [] e = record { trees = []; count = refl; made = refl }
forest_from zero (node ∷ nodes) e = cc
forest_from (suc k) [] e = cc
forest_from (suc k) (Closed ∷ nodes) e =
    let f = forest_from k nodes e in
    record { trees = ClosedEnd ∷ f.trees; count = ap suc f.count; made = ap (λ ns. Closed ∷ ns) f.made }
forest_from (suc k) (Open ∷ nodes) e =
    let f = forest_from k nodes e in
    record { trees = OpenEnd ∷ f.trees; count = ap suc f.count; made = ap (λ ns. Open ∷ ns) f.made }
forest_from (suc k) (Split x ∷ nodes) e =
    let f = forest_from (k + 2) nodes e in split_off x k nodes f.trees f.count f.made
forest_from (suc k) (Forced x b ∷ nodes) e =
    let f = forest_from (k + 1) nodes e in force_off x b k nodes f.trees f.count f.made

one_of : (nodes : List Node) (trees : List Tree) → length trees ≡ 1 → flat_map preorder trees ≡ nodes → IsOneTree nodes
one_of nodes [] size made = absurd (omega arith)
one_of nodes (t ∷ []) size made = (t, sym (append-nil (preorder t)) ∙ made)
one_of nodes (t ∷ u ∷ trees) size made = absurd (omega arith)

pub counts_one_tree : (nodes : List Node) → are_trees 1 nodes ≡ true → IsOneTree nodes
counts_one_tree nodes e = let f = forest_from 1 nodes e in one_of nodes f.trees f.count f.made

-- ---- node by node

drop_node : (nodes : List Node) (i : ℕ) (node : Node) → i < length nodes → node ≡ get_or nodes i node → drop i nodes ≡ node ∷ drop (i + 1) nodes
drop_node nodes i node lt is =
    let one : suc i ≡ i + 1 = omega arith in
    drop-cons nodes i node lt ∙ (ap (λ m. m ∷ drop (suc i) nodes) (sym is) ∙ ap (λ k. node ∷ drop k nodes) one)

pub next_pending : (nodes : List Node) (i pending new : ℕ) (node : Node) → i < length nodes → node ≡ get_or nodes i node → 0 < pending → new ≡ still node (pending - 1)
    → are_trees 1 nodes ≡ are_trees pending (drop i nodes) → are_trees 1 nodes ≡ are_trees new (drop (i + 1) nodes)
next_pending nodes i pending new node lt is some e before =
    let more : pending ≡ suc (pending - 1) = omega arith in
    before ∙ (ap (are_trees pending) (drop_node nodes i node lt is)
    ∙ (ap (λ k. are_trees k (node ∷ drop (i + 1) nodes)) more ∙ ap (λ k. are_trees k (drop (i + 1) nodes)) (sym e)))

pub still_small : (node : Node) (others : ℕ) → still node others ≤ others + 2
still_small Closed others = omega arith
still_small Open others = omega arith
still_small (Split x) others = omega arith
still_small (Forced x b) others = omega arith

pub nothing_pending : (nodes : List Node) (i pending : ℕ) (node : Node) → i < length nodes → node ≡ get_or nodes i node → pending ≡ 0
    → are_trees 1 nodes ≡ are_trees pending (drop i nodes) → IsOneTree nodes → ⊥
nothing_pending nodes i pending node lt is none before one =
    let whole : are_trees pending (drop i nodes) ≡ false = ap (λ k. are_trees k (drop i nodes)) none ∙ ap (are_trees 0) (drop_node nodes i node lt is) in
    let counts = one_tree_counts nodes one in
    cc

at_end : (nodes : List Node) (i pending : ℕ) → length nodes ≤ i → are_trees 1 nodes ≡ are_trees pending (drop i nodes) → are_trees 1 nodes ≡ are_trees pending []
at_end nodes i pending past before = before ∙ ap (are_trees pending) (drop_all i nodes past)

not_zero : (k : ℕ) → 0 < k → nat_eq k 0 ≡ false
not_zero k lt = grind (arith, nat_tests)

end_counts : (pending : ℕ) → are_trees pending [] ≡ nat_eq pending 0
end_counts zero = refl
end_counts (suc k) = sym (not_zero (suc k) (omega arith))

pub decided : (nodes : List Node) (i pending : ℕ) → length nodes ≤ i → are_trees 1 nodes ≡ are_trees pending (drop i nodes)
    → (nat_eq pending 0 ≡ true → IsOneTree nodes) × (IsOneTree nodes → nat_eq pending 0 ≡ true)
decided nodes i pending past before =
    let same : are_trees 1 nodes ≡ nat_eq pending 0 = at_end nodes i pending past before ∙ end_counts pending in
    ((λ e. counts_one_tree nodes (same ∙ e)), (λ one. sym same ∙ one_tree_counts nodes one))
