-- A stack stands for a tree, and a turn of the search changes where it stands and not the tree.
use Rattle.std.proofs.Common.{◌≡◌, ℕ, ◌+◌, ◌≤◌, length, Bool, true, false, not, cond, List, [], ◌∷◌, ◌++◌, refl, sym, ◌∙◌, ap, subst, arith}
use Rattle.std.proofs.lemmas.List.{append-nil}
use Rattle.std.proofs.lemmas.List.Elements.{All-nil, All-cons, All-append}
use Rattle.tri.specs.Paths.{Path}
use Rattle.redundancy_cert.specs.declared.nodes.Node.{Node}
use Rattle.redundancy_cert.specs.declared.nodes.Node.TheVariants.{Closed, Open, Split, Forced}
use Rattle.redundancy_cert.specs.declared.stacks.Other.{Other}
use Rattle.redundancy_cert.specs.declared.stacks.Other.TheVariants.{Untried, Searched, Shut}
use Rattle.redundancy_cert.specs.declared.stacks.Side.{Side}
use Rattle.redundancy_cert.specs.Trees.{ClosedEnd, OpenEnd, SplitOn, ForcedTo, preorder, Place, places, closed_count, open_count}
use Rattle.redundancy_cert.specs.Stacks.{other_nodes, node_of, wrapped, stack_tree, stack_onto, StandsBelow, OtherStands, StandsAround, closed_around, open_around, searched_open, searched_open_around, IsFlipped}
use Rattle.redundancy_cert.proofs.Redundant.{closed_count-append, open_count-append}

-- ---- one decision more at the end

pub whole-append : (ss : List Side) (s : Side) (nodes : List Node) → stack_tree (ss ++ s ∷ []) nodes ≡ stack_tree ss (wrapped s nodes)
whole-append [] s nodes = refl
whole-append (r ∷ ss) s nodes = ap (wrapped r) (whole-append ss s nodes)

pub stack_onto-append : (p : Path) (ss : List Side) (s : Side) → stack_onto p (ss ++ s ∷ []) ≡ (s.signal, s.bit) ∷ stack_onto p ss
stack_onto-append p [] s = refl
stack_onto-append p (r ∷ ss) s = stack_onto-append ((r.signal, r.bit) ∷ p) ss s

pub closed_around-append : (ss : List Side) (s : Side) → closed_around (ss ++ s ∷ []) ≡ closed_around ss + closed_count (other_nodes s.other)
closed_around-append [] s = omega arith
closed_around-append (r ∷ ss) s = let h = closed_around-append ss s in omega arith

module _ (P : Place → Type 0) where
  pub around-append : (p : Path) (ss : List Side) (s : Side) → StandsAround P p ss
      → P (record { path = stack_onto p ss; node = node_of s.signal s.bit s.other })
      → OtherStands P ((s.signal, not s.bit) ∷ stack_onto p ss) s.other → StandsAround P p (ss ++ s ∷ [])
  around-append p [] s h here other = (here, other, tt)
  around-append p (r ∷ ss) s h here other = (h.0, h.1, around-append ((r.signal, r.bit) ∷ p) ss s h.2 here other)

  pub around-front : (p : Path) (ss : List Side) (s : Side) → StandsAround P p (ss ++ s ∷ []) → StandsAround P p ss
  around-front p [] s h = tt
  around-front p (r ∷ ss) s h = (h.0, h.1, around-front ((r.signal, r.bit) ∷ p) ss s h.2)

  pub around-last : (p : Path) (ss : List Side) (s : Side) → StandsAround P p (ss ++ s ∷ [])
      → P (record { path = stack_onto p ss; node = node_of s.signal s.bit s.other }) × OtherStands P ((s.signal, not s.bit) ∷ stack_onto p ss) s.other
  around-last p [] s h = (h.0, h.1)
  around-last p (r ∷ ss) s h = around-last ((r.signal, r.bit) ∷ p) ss s h.2

  -- ---- trees of trees

  pub closed_stands : (p : Path) → P (record { path = p; node = Closed }) → StandsBelow P p (Closed ∷ [])
  closed_stands p h = (ClosedEnd, refl, All-cons P (record { path = p; node = Closed }) [] h (All-nil P))

  pub open_stands : (p : Path) → P (record { path = p; node = Open }) → StandsBelow P p (Open ∷ [])
  open_stands p h = (OpenEnd, refl, All-cons P (record { path = p; node = Open }) [] h (All-nil P))

  pub split_stands : (p : Path) (x : ℕ) (zero one : List Node) → P (record { path = p; node = Split x })
      → StandsBelow P ((x, false) ∷ p) zero → StandsBelow P ((x, true) ∷ p) one → StandsBelow P p (Split x ∷ (zero ++ one))
  split_stands p x zero one h a b = (
    SplitOn x a.0 b.0,
    ap (λ ns. Split x ∷ (ns ++ preorder b.0)) a.1 ∙ ap (λ ns. Split x ∷ (zero ++ ns)) b.1,
    All-cons P (record { path = p; node = Split x }) (places ((x, false) ∷ p) a.0 ++ places ((x, true) ∷ p) b.0) h
        (All-append P (places ((x, false) ∷ p) a.0) (places ((x, true) ∷ p) b.0) a.2 b.2),
  )

  pub forced_stands : (p : Path) (x : ℕ) (b : Bool) (nodes : List Node) → P (record { path = p; node = Forced x b })
      → StandsBelow P ((x, b) ∷ p) nodes → StandsBelow P p (Forced x b ∷ nodes)
  forced_stands p x b nodes h a = (
    ForcedTo x b a.0,
    ap (λ ns. Forced x b ∷ ns) a.1,
    All-cons P (record { path = p; node = Forced x b }) (places ((x, b) ∷ p) a.0) h a.2,
  )

  wrapped_by : (p : Path) (x : ℕ) (b : Bool) (other : Other) (nodes : List Node) → P (record { path = p; node = node_of x b other })
      → OtherStands P ((x, not b) ∷ p) other → StandsBelow P ((x, b) ∷ p) nodes
      → StandsBelow P p (node_of x b other ∷ cond b (other_nodes other ++ nodes) (nodes ++ other_nodes other))
  wrapped_by p x true Untried nodes h o a = split_stands p x (Open ∷ []) nodes h o a
  wrapped_by p x true (Searched t) nodes h o a = split_stands p x t.items nodes h o a
  wrapped_by p x true Shut nodes h o a = forced_stands p x true nodes h a
  wrapped_by p x false Untried nodes h o a = split_stands p x nodes (Open ∷ []) h a o
  wrapped_by p x false (Searched t) nodes h o a = split_stands p x nodes t.items h a o
  wrapped_by p x false Shut nodes h o a = subst (λ ns. StandsBelow P p (Forced x false ∷ ns)) (sym (append-nil nodes)) (forced_stands p x false nodes h a)

  -- a decision as a tree
  pub wrapped_stands : (p : Path) (s : Side) (nodes : List Node) → P (record { path = p; node = node_of s.signal s.bit s.other })
      → OtherStands P ((s.signal, not s.bit) ∷ p) s.other → StandsBelow P ((s.signal, s.bit) ∷ p) nodes → StandsBelow P p (wrapped s nodes)
  wrapped_stands p s nodes h o a = wrapped_by p s.signal s.bit s.other nodes h o a

  -- THE TREE OF A STACK stands if the stack does, and what is at the end of its path
  pub whole_stands : (p : Path) (ss : List Side) (nodes : List Node) → StandsAround P p ss → StandsBelow P (stack_onto p ss) nodes → StandsBelow P p (stack_tree ss nodes)
  whole_stands p [] nodes h a = a
  whole_stands p (s ∷ ss) nodes h a =
      wrapped_stands p s (stack_tree ss nodes) h.0 h.1 (whole_stands ((s.signal, s.bit) ∷ p) ss nodes h.2 a)

-- ---- counts

closed_wrapped : (x : ℕ) (b : Bool) (other : Other) (nodes : List Node)
    → closed_count (node_of x b other ∷ cond b (other_nodes other ++ nodes) (nodes ++ other_nodes other)) ≡ closed_count (other_nodes other) + closed_count nodes
closed_wrapped x true Untried nodes = closed_count-append (Open ∷ []) nodes
closed_wrapped x true (Searched t) nodes = closed_count-append t.items nodes
closed_wrapped x true Shut nodes = closed_count-append [] nodes
closed_wrapped x false Untried nodes = let h = closed_count-append nodes (Open ∷ []) in omega arith
closed_wrapped x false (Searched t) nodes = let h = closed_count-append nodes t.items in omega arith
closed_wrapped x false Shut nodes = let h = closed_count-append nodes [] in omega arith

open_wrapped : (x : ℕ) (b : Bool) (other : Other) (nodes : List Node)
    → open_count (node_of x b other ∷ cond b (other_nodes other ++ nodes) (nodes ++ other_nodes other)) ≡ open_count (other_nodes other) + open_count nodes
open_wrapped x true Untried nodes = open_count-append (Open ∷ []) nodes
open_wrapped x true (Searched t) nodes = open_count-append t.items nodes
open_wrapped x true Shut nodes = open_count-append [] nodes
open_wrapped x false Untried nodes = let h = open_count-append nodes (Open ∷ []) in omega arith
open_wrapped x false (Searched t) nodes = let h = open_count-append nodes t.items in omega arith
open_wrapped x false Shut nodes = let h = open_count-append nodes [] in omega arith

pub closed_whole : (ss : List Side) (nodes : List Node) → closed_count (stack_tree ss nodes) ≡ closed_around ss + closed_count nodes
closed_whole [] nodes = omega arith
closed_whole (s ∷ ss) nodes = let h = closed_whole ss nodes in let g = closed_wrapped s.signal s.bit s.other (stack_tree ss nodes) in omega arith

pub open_whole : (ss : List Side) (nodes : List Node) → open_count (stack_tree ss nodes) ≡ open_around ss + open_count nodes
open_whole [] nodes = omega arith
open_whole (s ∷ ss) nodes = let h = open_whole ss nodes in let g = open_wrapped s.signal s.bit s.other (stack_tree ss nodes) in omega arith

-- ---- THE TURN: the tree of the stack stays the same

flip : (b : Bool) (ds : List Node) → cond (not b) (ds ++ Open ∷ []) ((Open ∷ []) ++ ds) ≡ cond b ((Open ∷ []) ++ ds) (ds ++ Open ∷ [])
flip true ds = refl
flip false ds = refl

sides : (x : ℕ) (b : Bool) (o : Other) (y : ℕ) (c : Bool) (q : Other) (ds : List Node) → y ≡ x → c ≡ not b → o ≡ Untried → other_nodes q ≡ ds → node_of y c q ≡ Split y
    → node_of y c q ∷ cond c (other_nodes q ++ Open ∷ []) ((Open ∷ []) ++ other_nodes q) ≡ node_of x b o ∷ cond b (other_nodes o ++ ds) (ds ++ other_nodes o)
sides x b o y c q ds s e u d k =
    let node : node_of y c q ≡ node_of x b o = k ∙ (ap (λ z. Split z) s ∙ ap (node_of x b) (sym u)) in
    let below : cond c (other_nodes q ++ Open ∷ []) ((Open ∷ []) ++ other_nodes q) ≡ cond b (other_nodes o ++ ds) (ds ++ other_nodes o) =
    ap (λ t. cond t (other_nodes q ++ Open ∷ []) ((Open ∷ []) ++ other_nodes q)) e
    ∙ (ap (λ os. cond (not b) (os ++ Open ∷ []) ((Open ∷ []) ++ os)) d
    ∙ (flip b ds ∙ sym (ap (λ (p : Other). cond b (other_nodes p ++ ds) (ds ++ other_nodes p)) u))) in
    ap (λ r. r ∷ cond c (other_nodes q ++ Open ∷ []) ((Open ∷ []) ++ other_nodes q)) node ∙ ap (λ ns. node_of x b o ∷ ns) below

not_not : (b : Bool) → not (not b) ≡ b
not_not true = refl
not_not false = refl

module _ (P : Place → Type 0) where
  pub searched_stands : (path : Path) (q : Other) (y : ℕ) (c : Bool) (ds : List Node) → node_of y c q ≡ Split y → other_nodes q ≡ ds → StandsBelow P path ds → OtherStands P path q
  searched_stands path Untried y c ds k e h = subst (StandsBelow P path) (sym e) h
  searched_stands path (Searched t) y c ds k e h = subst (StandsBelow P path) (sym e) h
  searched_stands path Shut y c ds k e h = tt

  -- after a turn the stack stands, and so does an Open at its new end
  pub turned_stands : (p : Path) (done : List Node) (old new : List Side) → IsFlipped done old new → StandsAround P p old → StandsBelow P (stack_onto p old) done
      → StandsAround P p new × StandsBelow P (stack_onto p new) (Open ∷ [])
  turned_stands p done old new t h d =
      let before : StandsAround P p (t.front ++ t.last ∷ []) = subst (StandsAround P p) t.was h in
      let front : StandsAround P p t.front = around-front P p t.front t.last before in
      let last = around-last P p t.front t.last before in
      let path : Path = stack_onto p t.front in
      let node : P (record { path = path; node = node_of t.next.signal t.next.bit t.next.other }) =
      subst (λ (k : Node). P (record { path = path; node = k }))
      (ap (node_of t.last.signal t.last.bit) t.untried ∙ (ap (λ z. Split z) (sym t.signal) ∙ sym t.split)) last.0 in
      let side : StandsBelow P ((t.last.signal, t.last.bit) ∷ path) done =
      subst (λ q. StandsBelow P q done) (ap (stack_onto p) t.was ∙ stack_onto-append p t.front t.last) d in
      let searched : OtherStands P ((t.next.signal, not t.next.bit) ∷ path) t.next.other =
      searched_stands ((t.next.signal, not t.next.bit) ∷ path) t.next.other t.next.signal t.next.bit done t.split t.searched
      (subst (λ b. StandsBelow P ((t.next.signal, b) ∷ path) done) (sym (ap not t.bit ∙ not_not t.last.bit))
      (subst (λ x. StandsBelow P ((x, t.last.bit) ∷ path) done) (sym t.signal) side)) in
      let untried : StandsBelow P ((t.last.signal, not t.last.bit) ∷ path) (Open ∷ []) = subst (OtherStands P ((t.last.signal, not t.last.bit) ∷ path)) t.untried last.1 in
      let at : stack_onto p new ≡ (t.last.signal, not t.last.bit) ∷ path =
      ap (stack_onto p) t.is ∙ (stack_onto-append p t.front t.next ∙ (ap (λ x. (x, t.next.bit) ∷ path) t.signal ∙ ap (λ b. (t.last.signal, b) ∷ path) t.bit)) in (
        subst (StandsAround P p) (sym t.is) (around-append P p t.front t.next front node searched),
        subst (λ q. StandsBelow P q (Open ∷ [])) (sym at) untried,
      )

-- the counts of a turn
pub turned_closed : (done : List Node) (old new : List Side) → IsFlipped done old new → closed_around new ≡ closed_around old + closed_count done
turned_closed done old new t =
    let a = ap closed_around t.is in
    let b = closed_around-append t.front t.next in
    let c = ap closed_around t.was in
    let d = closed_around-append t.front t.last in
    let e = ap closed_count t.searched in
    let g = ap (λ (o : Other). closed_count (other_nodes o)) t.untried in
    omega arith

pub searched_open_around-append : (ss : List Side) (s : Side) → searched_open_around (ss ++ s ∷ []) ≡ searched_open_around ss + searched_open s.other
searched_open_around-append [] s = omega arith
searched_open_around-append (r ∷ ss) s = let h = searched_open_around-append ss s in omega arith

searched_open_at : (q : Other) (y : ℕ) (c : Bool) (ds : List Node) → node_of y c q ≡ Split y → other_nodes q ≡ ds → searched_open q ≤ open_count ds
searched_open_at Untried y c ds k e = omega arith
searched_open_at (Searched t) y c ds k e = let h = ap open_count e in omega arith
searched_open_at Shut y c ds k e = omega arith

-- a turn leaves no Open in what was searched, where there was none
pub turned_open : (done : List Node) (old new : List Side) → IsFlipped done old new → searched_open_around old ≡ 0 → open_count done ≡ 0 → searched_open_around new ≡ 0
turned_open done old new t h d =
    let a = ap searched_open_around t.is in
    let b = searched_open_around-append t.front t.next in
    let c = ap searched_open_around t.was in
    let e = searched_open_around-append t.front t.last in
    let g = searched_open_at t.next.other t.next.signal t.next.bit done t.split t.searched in
    omega arith

pub length-stack_onto : (p : Path) (ss : List Side) → length (stack_onto p ss) ≡ length p + length ss
length-stack_onto p [] = omega arith
length-stack_onto p (s ∷ ss) = let h = length-stack_onto ((s.signal, s.bit) ∷ p) ss in omega arith
