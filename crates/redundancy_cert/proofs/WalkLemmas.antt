-- The check goes over the nodes of a tree in the order of their places.
use Rattle.std.proofs.Common.{◌≡◌, ℕ, suc, ◌+◌, ◌<◌, ◌≤◌, Bool, true, false, cond, List, [], ◌∷◌, ◌++◌, take, drop, length, get_or, set, Some, refl, sym, ◌∙◌, ap, subst, inl, inr, arith, length-append}
use Rattle.std.specs.List.{All}
use Rattle.std.proofs.lemmas.Bool.{cond-true, cond-false}
use Rattle.std.proofs.lemmas.Option.{slice_get-get_or}
use Rattle.std.proofs.lemmas.Grind.{take-set_at}
use Rattle.std.proofs.lemmas.List.{append_assoc, take-append-drop, append-nil, take_all, drop_more}
use Rattle.std.proofs.lemmas.List.Elements.{All-nil, All-head, All-tail, All-more}
use Rattle.statement.specs.declared.lines.Fault.{Fault}
use Rattle.statement.specs.Netlists.{Netlist}
use Rattle.statement.specs.Patterns.{Holds}
use Rattle.tri.specs.Paths.{Path}
use Rattle.redundancy_cert.specs.declared.nodes.Node.{Node}
use Rattle.redundancy_cert.specs.declared.nodes.Node.TheVariants.{Split, Forced}
use Rattle.redundancy_cert.specs.declared.steps.Step.{Step}
use Rattle.redundancy_cert.specs.Trees.{Tree, ClosedEnd, OpenEnd, SplitOn, ForcedTo, preorder, Place, places, IsOneTree}
use Rattle.redundancy_cert.specs.Fits.{NodeFits, PlaceFits, Fits, IsFirstBad}
use Rattle.redundancy_cert.specs.inner.Walk.{after, walk, path_onto, path_of, waiting_onto, waiting_of, StandsFor, IsChecked}

-- ---- trees and walks

pub walk_tree : (t : Tree) (p : Path) (ps : List Path) (rest : List Node) → walk (p ∷ ps) (preorder t ++ rest) ≡ places p t ++ walk ps rest
walk_tree ClosedEnd p ps rest = refl
walk_tree OpenEnd p ps rest = refl
walk_tree (SplitOn x t u) p ps rest =
    let here : Place = record { path = p; node = Split x } in
    let q : Path = (x, false) ∷ p in
    let r : Path = (x, true) ∷ p in
    ap (λ ns. here ∷ walk (q ∷ r ∷ ps) ns) (append_assoc (preorder t) (preorder u) (rest))
    ∙ (ap (λ w. here ∷ w) (walk_tree t q (r ∷ ps) (preorder u ++ rest) ∙ ap (λ w. places q t ++ w) (walk_tree u r ps rest))
    ∙ ap (λ w. here ∷ w) (sym (append_assoc (places q t) (places r u) (walk ps rest))))
walk_tree (ForcedTo x b t) p ps rest = ap (λ w. record { path = p; node = Forced x b } ∷ w) (walk_tree t ((x, b) ∷ p) ps rest)

pub length-places : (t : Tree) (p : Path) → length (places p t) ≡ length (preorder t)
length-places ClosedEnd p = refl
length-places OpenEnd p = refl
length-places (SplitOn x t u) p =
    let a = length-places t ((x, false) ∷ p) in
    let b = length-places u ((x, true) ∷ p) in
    let c = length-append (places ((x, false) ∷ p) t) (places ((x, true) ∷ p) u) in
    let d = length-append (preorder t) (preorder u) in
    ap suc (omega arith)
length-places (ForcedTo x b t) p = ap suc (length-places t ((x, b) ∷ p))

-- ---- one step more

pub path_onto-append : (p : Path) (ss : List Step) (s : Step) → path_onto p (ss ++ s ∷ []) ≡ (s.signal, s.bit) ∷ path_onto p ss
path_onto-append p [] s = refl
path_onto-append p (r ∷ ss) s = path_onto-append ((r.signal, r.bit) ∷ p) ss s

pub waiting_onto-append : (p : Path) (ws : List Path) (ss : List Step) (s : Step)
    → waiting_onto p ws (ss ++ s ∷ []) ≡ cond s.waiting (((s.signal, true) ∷ path_onto p ss) ∷ waiting_onto p ws ss) (waiting_onto p ws ss)
waiting_onto-append p ws [] s = refl
waiting_onto-append p ws (r ∷ ss) s = waiting_onto-append ((r.signal, r.bit) ∷ p) (cond r.waiting (((r.signal, true) ∷ p) ∷ ws) ws) ss s

-- steps behind which nothing waits
pub none_waits : (p : Path) (ws : List Path) (ss ts : List Step) → All (λ (s : Step). s.waiting ≡ false) ts → waiting_onto p ws (ss ++ ts) ≡ waiting_onto p ws ss
none_waits p ws [] [] h = refl
none_waits p ws [] (t ∷ ts) h =
    none_waits ((t.signal, t.bit) ∷ p) (cond t.waiting (((t.signal, true) ∷ p) ∷ ws) ws) [] ts (All-tail (λ (s : Step). s.waiting ≡ false) t ts h)
    ∙ cond-false t.waiting (((t.signal, true) ∷ p) ∷ ws) ws (All-head (λ (s : Step). s.waiting ≡ false) t ts h)
none_waits p ws (s ∷ ss) ts h = none_waits ((s.signal, s.bit) ∷ p) (cond s.waiting (((s.signal, true) ∷ p) ∷ ws) ws) ss ts h

split_at : (ss : List Step) (k : ℕ) (s : Step) → k < length ss → get_or ss k s ≡ s → ss ≡ (take k ss ++ s ∷ []) ++ drop (k + 1) ss
split_at ss k s l is =
    sym (append_assoc (take k ss) (s ∷ []) (drop (k + 1) ss) ∙ (ap (λ e. take k ss ++ e ∷ drop (k + 1) ss) (sym is) ∙ (ap (λ r. take k ss ++ r) (sym (drop_more ss k s l)) ∙ take-append-drop k ss)))

-- the last step whose 1 is still to come turns to it
pub turned : (old new : List Step) (k : ℕ) (s : Step) → k < length old → get_or old k s ≡ s → s.waiting ≡ true
    → All (λ (t : Step). t.waiting ≡ false) (drop (k + 1) old)
    → new ≡ take (k + 1) (set old k (record { signal = s.signal; bit = true; waiting = false })) → StandsFor new (waiting_of old)
turned old new k s l is waits rest e =
    let t : Step = record { signal = s.signal; bit = true; waiting = false } in
    let front : List Step = take k old in
    let a : new ≡ front ++ t ∷ [] = e ∙ take-set_at old k (k + 1) t refl l in
    let before : waiting_of old ≡ ((s.signal, true) ∷ path_of front) ∷ waiting_of front =
    ap waiting_of (split_at old k s l is) ∙ (none_waits [] [] (front ++ s ∷ []) (drop (k + 1) old) rest
    ∙ (waiting_onto-append [] [] front s ∙ cond-true s.waiting (((s.signal, true) ∷ path_of front) ∷ waiting_of front) (waiting_of front) waits)) in
    let now : path_of new ≡ (s.signal, true) ∷ path_of front = ap path_of a ∙ path_onto-append [] front t in
    let left : waiting_of new ≡ waiting_of front = ap waiting_of a ∙ waiting_onto-append [] [] front t in
    inr (before ∙ (ap (λ p. p ∷ waiting_of front) (sym now) ∙ ap (λ ws. path_of new ∷ ws) (sym left)))

pub nothing_left : (ss : List Step) → All (λ (t : Step). t.waiting ≡ false) ss → waiting_of ss ≡ []
nothing_left ss h = none_waits [] [] [] ss h

-- ---- the places that were looked at

module _ (f : Fault) (n : Netlist) (holds : Holds) (nodes : List Node) (i : ℕ) (ss : List Step) (w : IsChecked f n holds nodes i ss) where
  size : length (places [] w.tree) ≡ length nodes
  size = length-places w.tree [] ∙ ap length w.is

  -- what stands at place i, and what follows
  at_place : (node : Node) → i < length nodes → node ≡ get_or nodes i node
      → (get_or (places [] w.tree) i (record { path = path_of ss; node = node }) ≡ record { path = path_of ss; node = node })
      × (walk (after (path_of ss) (waiting_of ss) node) (drop (i + 1) nodes) ≡ drop (i + 1) (places [] w.tree))
  at_place node l is =
      let here : Place = record { path = path_of ss; node = node } in
      let all : List Place = places [] w.tree in
      let inside : i < length all = let s = size in omega arith in
      let ahead : drop i all ≡ get_or all i here ∷ drop (i + 1) all = drop_more all i here inside in
      let next : drop i nodes ≡ node ∷ drop (i + 1) nodes = drop_more nodes i node l ∙ ap (λ x. x ∷ drop (i + 1) nodes) (sym is) in
      elim w.stands [
        | inl none ↦
            let bad : [] ≡ get_or all i here ∷ drop (i + 1) all = sym (ap (λ ps. walk ps (drop i nodes)) none) ∙ (w.ahead ∙ ahead) in absurd cc
        | inr is_path ↦
            let both : here ∷ walk (after (path_of ss) (waiting_of ss) node) (drop (i + 1) nodes) ≡ get_or all i here ∷ drop (i + 1) all =
            sym (ap (λ ps. walk ps (drop i nodes)) is_path ∙ ap (walk (path_of ss ∷ waiting_of ss)) next) ∙ (w.ahead ∙ ahead) in
            let head : get_or all i here ≡ here = cc in
            let tail : walk (after (path_of ss) (waiting_of ss) node) (drop (i + 1) nodes) ≡ drop (i + 1) all = cc in
            (head, tail)
      ]

  pub checked_more : (node : Node) (new : List Step) → i < length nodes → node ≡ get_or nodes i node → NodeFits f n holds (path_of ss) node
      → StandsFor new (after (path_of ss) (waiting_of ss) node) → IsChecked f n holds nodes (i + 1) new
  checked_more node new l is fits stands =
      let at = at_place node l is in
      record {
        tree = w.tree;
        is = w.is;
        todo = after (path_of ss) (waiting_of ss) node;
        ahead = at.1;
        stands = stands;
        before = All-more (PlaceFits f n holds) (places [] w.tree) i (record { path = path_of ss; node = node }) (let s = size in omega arith) w.before
            (subst (PlaceFits f n holds) (sym at.0) fits);
      }

  pub first_bad : (node : Node) → i < length nodes → node ≡ get_or nodes i node → (NodeFits f n holds (path_of ss) node → ⊥) → IsFirstBad f n holds nodes i
  first_bad node l is bad =
      let here : Place = record { path = path_of ss; node = node } in
      record {
        tree = w.tree;
        is = w.is;
        before = w.before;
        place = here;
        at = slice_get-get_or (places [] w.tree) i here (let s = size in omega arith) ∙ ap (λ (p : Place). Some p) (at_place node l is).0;
        bad = bad;
      }

  pub all_checked : length nodes ≤ i → Fits f n holds nodes
  all_checked l = (w.tree, w.is, subst (All (PlaceFits f n holds)) (take_all i (places [] w.tree) (let s = size in omega arith)) w.before)

pub none_checked : (f : Fault) (n : Netlist) (holds : Holds) (nodes : List Node) → IsOneTree nodes → IsChecked f n holds nodes 0 []
none_checked f n holds nodes w =
    let t : Tree = w.0 in
    record {
      tree = t;
      is = w.1;
      todo = [] ∷ [];
      ahead = ap (walk ([] ∷ [])) (sym w.1 ∙ sym (append-nil (preorder t))) ∙ (walk_tree t [] [] [] ∙ append-nil (places [] t));
      stands = inr refl;
      before = All-nil (PlaceFits f n holds);
    }

-- ---- the next node

pub stands_split : (x : ℕ) (old new : List Step) → new ≡ old ++ record { signal = x; bit = false; waiting = true } ∷ []
    → StandsFor new (after (path_of old) (waiting_of old) (Split x))
stands_split x old new e =
    let s : Step = record { signal = x; bit = false; waiting = true } in
    let path : path_of new ≡ (x, false) ∷ path_of old = ap path_of e ∙ path_onto-append [] old s in
    let rest : waiting_of new ≡ ((x, true) ∷ path_of old) ∷ waiting_of old = ap waiting_of e ∙ waiting_onto-append [] [] old s in
    inr (ap (λ p. p ∷ ((x, true) ∷ path_of old) ∷ waiting_of old) (sym path) ∙ ap (λ ps. path_of new ∷ ps) (sym rest))

pub stands_forced : (x : ℕ) (b : Bool) (old new : List Step) → new ≡ old ++ record { signal = x; bit = b; waiting = false } ∷ []
    → StandsFor new (after (path_of old) (waiting_of old) (Forced x b))
stands_forced x b old new e =
    let s : Step = record { signal = x; bit = b; waiting = false } in
    let path : path_of new ≡ (x, b) ∷ path_of old = ap path_of e ∙ path_onto-append [] old s in
    let rest : waiting_of new ≡ waiting_of old = ap waiting_of e ∙ waiting_onto-append [] [] old s in
    inr (ap (λ p. p ∷ waiting_of old) (sym path) ∙ ap (λ ps. path_of new ∷ ps) (sym rest))

-- a node fits alike where netlist and held inputs are the same
pub fits_alike : (f : Fault) (n m : Netlist) (holds other : Holds) (p : Path) (node : Node) → n ≡ m → holds ≡ other → NodeFits f n holds p node → NodeFits f m other p node
fits_alike f n m holds other p node e h fits = subst (λ (x : Netlist). NodeFits f x other p node) e (subst (λ (x : Holds). NodeFits f n x p node) h fits)
