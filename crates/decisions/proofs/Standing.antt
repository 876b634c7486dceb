-- Turns keep that the stack stands for a tree of which all is as asked.
use Rattle.std.proofs.Common.{Result, Ok, Err, ◌≡◌, ℕ, ◌+◌, ◌<◌, Bool, true, false, not, List, [], ◌∷◌, ◌++◌, refl, sym, ◌∙◌, ap, subst, inr, inl, arith}
use Rattle.std.specs.Prelude.{IfOk, OnOk}
use Rattle.std.specs.List.{All}
use Rattle.std.proofs.lemmas.Bool.{both_ways}
use Rattle.std.proofs.lemmas.List.Elements.{All-head}
use Rattle.statement.specs.declared.lines.Fault.{Fault}
use Rattle.statement.specs.declared.lines.Point.{Point}
use Rattle.statement.specs.Patterns.{Holds}
use Rattle.statement.specs.Netlists.{Netlist, signals}
use Rattle.tri.specs.Paths.{Path, IsClosedPath, IsUnknown}
use Rattle.pair_sim.specs.Sims.{Sim, sim, assigned}
use Rattle.pair_sim.proofs.Free.{free_undecided}
use Rattle.redundancy_cert.specs.declared.nodes.Node.{Node}
use Rattle.redundancy_cert.specs.declared.nodes.Node.TheVariants.{Closed, Open, Split, Forced}
use Rattle.redundancy_cert.specs.declared.stacks.Other.{Other}
use Rattle.redundancy_cert.specs.declared.stacks.Other.TheVariants.{Untried, Searched, Shut}
use Rattle.redundancy_cert.specs.declared.stacks.Side.{Side}
use Rattle.redundancy_cert.specs.Trees.{Tree, ClosedEnd, OpenEnd, SplitOn, ForcedTo, preorder, Place, places, closed_count, open_count}
use Rattle.redundancy_cert.specs.Stacks.{other_nodes, node_of, stack_tree, stack_onto, path_of_stack, StandsBelow, StandsAround, closed_around, searched_open_around}
use Rattle.redundancy_cert.proofs.StackLemmas.{stack_onto-append, closed_around-append, searched_open_around-append, around-append, closed_stands, open_stands, forced_stands, whole_stands, closed_whole, open_whole, turned_stands, turned_closed, turned_open}
use Rattle.decisions.specs.declared.turns.Step.{Step}
use Rattle.decisions.specs.declared.turns.Step.TheVariants.{Found, Done, On}
use Rattle.decisions.specs.Climbing.{AreFree, IsAtEnd, with_side, IsBacktrack, AreAllEnded, IsBacktrackStep}
use Rattle.decisions.specs.Standing.{AsksFit, SearchesAt, MayDecide, MayPush, MayEnd, IsClosedTree}
use Rattle.decisions.specs.Turns.{undecided, IsOfCase, IsSearchStep}
use Rattle.decisions.proofs.Bounds.{undecided_less}
use Rattle.decisions.proofs.Climbs.{tried_open}

-- labels of a path
pub of_case : (f : Fault) (n : Netlist) (holds : Holds) (s : Sim) (path : Path) → s ≡ sim n f holds path → IsOfCase f n holds s
of_case f n holds s path e = e ∙ ap (sim n f holds) (sym (ap (λ (r : Sim). r.path) e))

pub started : {P : Place → Type 0} {f : Fault} {n : Netlist} {holds : Holds} {s : Sim} {stack : List Side} → s ≡ sim n f holds [] → stack ≡ [] → P (record { path = []; node = Open })
    → SearchesAt P f n holds s stack 0
started {P} {f} {n} {holds} {s} a e g = subst (λ (ss : List Side). SearchesAt P f n holds s ss 0) (sym e)
    (record { is = record { at = a; around = tt; searched = refl }; going = g; counted = refl })

-- ---- two parts of a stack

stack_onto-both : (p : Path) (ss ts : List Side) → stack_onto p (ss ++ ts) ≡ stack_onto (stack_onto p ss) ts
stack_onto-both p [] ts = refl
stack_onto-both p (r ∷ ss) ts = stack_onto-both ((r.signal, r.bit) ∷ p) ss ts

closed_around-both : (ss ts : List Side) → closed_around (ss ++ ts) ≡ closed_around ss + closed_around ts
closed_around-both [] ts = omega arith
closed_around-both (r ∷ ss) ts = let h = closed_around-both ss ts in omega arith

searched_around-both : (ss ts : List Side) → searched_open_around (ss ++ ts) ≡ searched_open_around ss + searched_open_around ts
searched_around-both [] ts = omega arith
searched_around-both (r ∷ ss) ts = let h = searched_around-both ss ts in omega arith

module _ (P : Place → Type 0) (f : Fault) (n : Netlist) (holds : Holds) where
  around-both : (p : Path) (ss ts : List Side) → StandsAround P p (ss ++ ts) → StandsAround P p ss × StandsAround P (stack_onto p ss) ts
  around-both p [] ts h = (tt, h)
  around-both p (r ∷ ss) ts h = let w = around-both ((r.signal, r.bit) ∷ p) ss ts h.2 in ((h.0, h.1, w.0), w.1)

  -- ---- the end of the path

  free_around : AsksFit P f n holds → (p : Path) (ss : List Side) → StandsAround P p ss → AreFree f n holds p ss
  free_around fit p [] h = tt
  free_around fit p (r ∷ ss) h = (free r.signal r.bit r.other h.0, free_around fit ((r.signal, r.bit) ∷ p) ss h.2)
    where
      free : (x : ℕ) (b : Bool) (o : Other) → P (record { path = p; node = node_of x b o }) → IsUnknown f n holds p x
      free x b Untried k = (fit (record { path = p; node = Split x }) k).1
      free x b (Searched t) k = (fit (record { path = p; node = Split x }) k).1
      free x b Shut k = (fit (record { path = p; node = Forced x b }) k).1

  -- ---- one decision more

  pub entered : (s new : Sim) (stack stack' : List Side) (x : ℕ) (b : Bool) (other : Other) → MayPush P f n holds s stack x b other
      → stack' ≡ with_side stack x b other → new ≡ assigned s x b → SearchesAt P f n holds new stack' (closed_around stack + closed_count (other_nodes other))
  entered s new stack stack' x b other w e a =
      let side : Side = record { signal = x; bit = b; other = other } in
      let path : path_of_stack stack' ≡ (x, b) ∷ path_of_stack stack = ap path_of_stack e ∙ stack_onto-append [] stack side in
      record {
        is = record {
          at = a ∙ (ap (λ (r : Sim). assigned r x b) w.is.at ∙ ap (sim n f holds) (sym path));
          around = subst (StandsAround P []) (sym e) (around-append P [] stack side w.is.around w.fits w.stands);
          searched = let c = ap searched_open_around e in let d = searched_open_around-append stack side in let g = w.searched in let h = w.is.searched in omega arith;
        };
        going = subst (λ q. P (record { path = q; node = Open })) (sym path) w.going;
        counted = sym (ap closed_around e ∙ closed_around-append stack side);
      }

  pub fewer : (s : Sim) (stack stack' : List Side) (x : ℕ) (b : Bool) (other : Other) → MayPush P f n holds s stack x b other → stack' ≡ with_side stack x b other
      → undecided (path_of_stack stack') (signals n) < undecided (path_of_stack stack) (signals n)
  fewer s stack stack' x b other w e =
      let side : Side = record { signal = x; bit = b; other = other } in
      let path : path_of_stack stack' ≡ (x, b) ∷ path_of_stack stack = ap path_of_stack e ∙ stack_onto-append [] stack side in
      let less = undecided_less (path_of_stack stack) x b (signals n) w.free.signal (free_undecided f n holds (path_of_stack stack) x w.free) in
      let same = ap (λ p. undecided p (signals n)) path in
      omega arith

  -- a turn that pushes a decision of which no Closed is known
  pub pushed : (T : Sim → Point → Type 0) (s new : Sim) (stack stack' : List Side) (x : ℕ) (b : Bool) (other : Other) → closed_count (other_nodes other) ≡ 0
      → MayPush P f n holds s stack x b other → stack' ≡ with_side stack x b other → new ≡ assigned s x b
      → IsSearchStep P T f n holds stack (closed_around stack) new stack' (On false)
  pushed T s new stack stack' x b other none w e a = (
    subst (λ k. SearchesAt P f n holds new stack' (closed_around stack + k)) none (entered s new stack stack' x b other w e a),
    inr (fewer s stack stack' x b other w e),
  )

  pub push_turn : {E : Type 0} (T : Sim → Point → Type 0) (s new : Sim) (stack stack' : List Side) (x : ℕ) (b : Bool) (other : Other) (r : Result Step E)
      → closed_count (other_nodes other) ≡ 0 → MayPush P f n holds s stack x b other → new ≡ assigned s x b
      → IfOk r (λ step. (step ≡ On false) × (stack' ≡ with_side stack x b other)) → IfOk r (IsSearchStep P T f n holds stack (closed_around stack) new stack')
  push_turn T s new stack stack' x b other (Ok step) none w a h =
      subst (IsSearchStep P T f n holds stack (closed_around stack) new stack') (sym h.0) (pushed T s new stack stack' x b other none w h.1 a)
  push_turn T s new stack stack' x b other (Err e) none w a h = tt

  -- ---- back to the last untried side

  -- what stands at an Open
  at_open : (path : Path) → StandsBelow P path (Open ∷ []) → P (record { path = path; node = Open })
  at_open path h = step h.0 h.1 h.2
    where
      no_open : Closed ∷ [] ≡ Open ∷ [] → ⊥
      no_open q = cc

      no_split : (x : ℕ) (nodes : List Node) → Split x ∷ nodes ≡ Open ∷ [] → ⊥
      no_split x nodes q = cc

      no_forced : (x : ℕ) (b : Bool) (nodes : List Node) → Forced x b ∷ nodes ≡ Open ∷ [] → ⊥
      no_forced x b nodes q = cc

      step : (t : Tree) → preorder t ≡ Open ∷ [] → All P (places path t) → P (record { path = path; node = Open })
      step ClosedEnd e k = absurd (no_open e)
      step OpenEnd e k = All-head P (record { path = path; node = Open }) [] k
      step (SplitOn x t u) e k = absurd (no_split x (preorder t ++ preorder u) e)
      step (ForcedTo x b t) e k = absurd (no_forced x b (preorder t) e)

  -- THE TURN: the tree of the path's end is that of the decisions after the last untried side, and the search stands on that side
  pub went_back : (s new : Sim) (stack stack' : List Side) (done : List Node) → MayEnd P f n holds s stack done → (t : IsBacktrack done stack stack') → new ≡ sim n f holds (path_of_stack stack')
      → SearchesAt P f n holds new stack' (closed_around stack + closed_count done)
  went_back s new stack stack' done w t a =
      let parts = around-both [] t.kept t.ended (subst (StandsAround P []) t.was w.is.around) in
      let path : path_of_stack stack ≡ stack_onto (path_of_stack t.kept) t.ended = ap path_of_stack t.was ∙ stack_onto-both [] t.kept t.ended in
      let tree : StandsBelow P (path_of_stack t.kept) (stack_tree t.ended done) =
      whole_stands P (path_of_stack t.kept) t.ended done parts.1 (subst (λ q. StandsBelow P q done) path w.stands) in
      let both = turned_stands P [] (stack_tree t.ended done) t.kept stack' t.turned parts.0 tree in
      let opens = open_whole t.ended done in
      let tried = tried_open t.ended t.tried in
      let was_open = ap searched_open_around t.was in
      let both_open = searched_around-both t.kept t.ended in
      let none = w.is.searched in
      let none_done = w.closed in
      let kept_none : searched_open_around t.kept ≡ 0 = omega arith in
      let tree_none : open_count (stack_tree t.ended done) ≡ 0 = omega arith in
      let closes = closed_whole t.ended done in
      let was_closed = ap closed_around t.was in
      let both_closed = closed_around-both t.kept t.ended in
      let turned = turned_closed (stack_tree t.ended done) t.kept stack' t.turned in
      record {
        is = record { at = a; around = both.0; searched = turned_open (stack_tree t.ended done) t.kept stack' t.turned kept_none tree_none };
        going = at_open (path_of_stack stack') both.1;
        counted = omega arith;
      }

  -- where no side is untried the tree is whole
  pub whole_at_root : (s : Sim) (stack stack' : List Side) (done tree : List Node) → MayEnd P f n holds s stack done → AreAllEnded done stack stack' tree
      → IsClosedTree P tree (closed_around stack + closed_count done)
  whole_at_root s stack stack' done tree w t = record {
    tree_is = subst (StandsBelow P []) (sym t.is) (whole_stands P [] stack done w.is.around w.stands);
    none_open =
        let a = ap open_count t.is in
        let b = open_whole stack done in
        let c = tried_open stack t.tried in
        let d = w.is.searched in
        let e = w.closed in
        omega arith;
    counted = ap closed_count t.is ∙ closed_whole stack done;
  }

  -- a turn in which the path ends
  pub stepped_back : (T : Sim → Point → Type 0) (s new : Sim) (stack stack' : List Side) (done : List Node) (step : Step) → closed_count done ≡ 1 → MayEnd P f n holds s stack done
      → IsBacktrackStep done stack stack' step → IsAtEnd f n holds new stack' → IsSearchStep P T f n holds stack (closed_around stack) new stack' step
  stepped_back T s new stack stack' done (Found point) one w t a = absurd t
  stepped_back T s new stack stack' done (Done tree) one w t a = (
    subst (λ k. IsClosedTree P tree.items (closed_around stack + k)) one (whole_at_root s stack stack' done tree.items w t),
    of_case f n holds new (path_of_stack stack') a.at,
  )
  stepped_back T s new stack stack' done (On true) one w t a = (
    subst (λ k. SearchesAt P f n holds new stack' (closed_around stack + k)) one (went_back s new stack stack' done w t.1 a.at),
    inl refl,
  )
  stepped_back T s new stack stack' done (On false) one w t a = absurd (both_ways false refl t.0)

  pub end_turn : {E : Type 0} (T : Sim → Point → Type 0) (s new : Sim) (stack stack' : List Side) (done : List Node) (r : Result Step E) → closed_count done ≡ 1
      → MayEnd P f n holds s stack done → OnOk r (IsAtEnd f n holds new stack') → IfOk r (IsBacktrackStep done stack stack')
      → IfOk r (IsSearchStep P T f n holds stack (closed_around stack) new stack')
  end_turn T s new stack stack' done (Ok step) one w a t = stepped_back T s new stack stack' done step one w t a
  end_turn T s new stack stack' done (Err e) one w a t = tt

-- ---- how a turn ends, by what was seen of both sides of a signal

not_not : (b : Bool) → b ≡ not (not b)
not_not true = refl
not_not false = refl

module _ {P : Place → Type 0} {f : Fault} {n : Netlist} {holds : Holds} {s : Sim} {stack : List Side} {x : ℕ} (w : MayDecide P f n holds s stack x) where
  -- what is seen of a side, of the stack
  pub seen : (Q : Fault → Netlist → Holds → Path → Type 0) (b : Bool) → Q s.fault s.netlist s.holds ((x, b) ∷ s.path) → Q f n holds ((x, b) ∷ path_of_stack stack)
  seen Q b h = subst (λ (r : Sim). Q r.fault r.netlist r.holds ((x, b) ∷ r.path)) w.is.at h

  -- labels that came back
  pub end_there : AsksFit P f n holds → (s' : Sim) → s' ≡ s → IsAtEnd s'.fault s'.netlist s'.holds s' stack
  end_there fit s' e = subst (λ (r : Sim). IsAtEnd r.fault r.netlist r.holds s' stack) (sym (e ∙ w.is.at))
      (record { at = e ∙ w.is.at; free = free_around P f n holds fit [] stack w.is.around })

  pub free_there : (s' : Sim) → s' ≡ s → IsUnknown s'.fault s'.netlist s'.holds s'.path x
  free_there s' e = subst (λ (r : Sim). IsUnknown r.fault r.netlist r.holds r.path x) (sym (e ∙ w.is.at)) w.free

  forced_side : (b : Bool) → IsClosedPath f n holds ((x, not b) ∷ path_of_stack stack) → P (record { path = (x, b) ∷ path_of_stack stack; node = Open }) → MayPush P f n holds s stack x b Shut
  forced_side b shut going = record { is = w.is; free = w.free; fits = w.forced b shut; stands = tt; searched = refl; going = going }

  -- both sides are closed
  pub both_closed : {E : Type 0} (T : Sim → Point → Type 0) (b : Bool) (s' new : Sim) (stack' : List Side) (r : Result Step E) → s' ≡ s
      → P (record { path = (x, b) ∷ path_of_stack stack; node = Closed }) → IsClosedPath s.fault s.netlist s.holds ((x, not b) ∷ s.path)
      → OnOk r (IsAtEnd s'.fault s'.netlist s'.holds new stack') → IfOk r (IsBacktrackStep (Forced x b ∷ Closed ∷ []) stack stack')
      → IfOk r (IsSearchStep P T f n holds stack (closed_around stack) new stack')
  both_closed T b s' new stack' r e this other a t = end_turn P f n holds T s new stack stack' (Forced x b ∷ Closed ∷ []) r refl (record {
    is = w.is;
    stands = forced_stands P (path_of_stack stack) x b (Closed ∷ []) (w.forced b (seen IsClosedPath (not b) other)) (closed_stands P ((x, b) ∷ path_of_stack stack) this);
    closed = refl;
  }) (subst (λ (q : Sim). OnOk r (IsAtEnd q.fault q.netlist q.holds new stack')) (e ∙ w.is.at) a) t

  -- this side is closed, and the other was gone to
  pub this_closed : {E : Type 0} (T : Sim → Point → Type 0) (b : Bool) (new : Sim) (stack' : List Side) (r : Result Step E)
      → IsClosedPath f n holds ((x, b) ∷ path_of_stack stack) → P (record { path = (x, not b) ∷ path_of_stack stack; node = Open }) → new ≡ assigned s x (not b)
      → IfOk r (λ step. (step ≡ On false) × (stack' ≡ with_side stack x (not b) Shut)) → IfOk r (IsSearchStep P T f n holds stack (closed_around stack) new stack')
  this_closed T b new stack' r shut going a h = push_turn P f n holds T s new stack stack' x (not b) Shut r refl
      (forced_side (not b) (subst (λ c. IsClosedPath f n holds ((x, c) ∷ path_of_stack stack)) (not_not b) shut) going) a h

  -- the other side is closed, and this one was gone to after that
  pub other_closed : {E : Type 0} (T : Sim → Point → Type 0) (b : Bool) (s' new : Sim) (stack' : List Side) (r : Result Step E) → s' ≡ s
      → P (record { path = (x, b) ∷ path_of_stack stack; node = Open }) → IsClosedPath s.fault s.netlist s.holds ((x, not b) ∷ s.path) → new ≡ assigned s' x b
      → IfOk r (λ step. (step ≡ On false) × (stack' ≡ with_side stack x b Shut)) → IfOk r (IsSearchStep P T f n holds stack (closed_around stack) new stack')
  other_closed T b s' new stack' r e going other a h = push_turn P f n holds T s new stack stack' x b Shut r refl
      (forced_side b (seen IsClosedPath (not b) other) going) (a ∙ ap (λ (q : Sim). assigned q x b) e) h

  -- both may be gone on with, and the other was gone to
  pub both_going : {E : Type 0} (T : Sim → Point → Type 0) (b : Bool) (new : Sim) (stack' : List Side) (r : Result Step E) → P (record { path = path_of_stack stack; node = Split x })
      → P (record { path = (x, b) ∷ path_of_stack stack; node = Open }) → P (record { path = (x, not b) ∷ path_of_stack stack; node = Open }) → new ≡ assigned s x (not b)
      → IfOk r (λ step. (step ≡ On false) × (stack' ≡ with_side stack x (not b) Untried)) → IfOk r (IsSearchStep P T f n holds stack (closed_around stack) new stack')
  both_going T b new stack' r split this other a h = push_turn P f n holds T s new stack stack' x (not b) Untried r refl (record {
    is = w.is;
    free = w.free;
    fits = split;
    stands = open_stands P ((x, not (not b)) ∷ path_of_stack stack) (subst (λ c. P (record { path = (x, c) ∷ path_of_stack stack; node = Open })) (not_not b) this);
    searched = refl;
    going = other;
  }) a h
