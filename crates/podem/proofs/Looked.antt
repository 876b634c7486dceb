-- Where the other sides of decisions aren't looked at: what stands on the stack, the end of its path, and trees without Open.
use Rattle.std.proofs.Common.{Result, Ok, Err, ◌≡◌, ℕ, ◌+◌, ◌<◌, ◌≤◌, Bool, true, false, not, cond, List, [], ◌∷◌, ◌++◌, refl, sym, subst, arith}
use Rattle.std.specs.Prelude.{IfOk, OnOk, IsTrue, ◌||◌}
use Rattle.std.specs.List.{All}
use Rattle.std.proofs.lemmas.Bool.{both_ways}
use Rattle.std.proofs.lemmas.List.Elements.{All-nil, All-cons, All-head, All-tail, All-append}
use Rattle.statement.specs.declared.lines.Fault.{Fault}
use Rattle.statement.specs.declared.lines.Point.{Point}
use Rattle.statement.specs.Patterns.{Holds}
use Rattle.statement.specs.Netlists.{Netlist}
use Rattle.netlist.proofs.Lists.{all_left, all_right}
use Rattle.tri.specs.Paths.{Path, IsClosedPath, IsGoingPath, IsTestPath, IsUnknown}
use Rattle.redundancy_cert.specs.declared.nodes.Node.{Node}
use Rattle.redundancy_cert.specs.declared.nodes.Node.TheVariants.{Closed, Open, Split, Forced}
use Rattle.redundancy_cert.specs.declared.stacks.Other.{Other}
use Rattle.redundancy_cert.specs.declared.stacks.Other.TheVariants.{Untried, Searched, Shut}
use Rattle.redundancy_cert.specs.declared.stacks.Side.{Side}
use Rattle.redundancy_cert.specs.Trees.{Tree, ClosedEnd, OpenEnd, SplitOn, ForcedTo, preorder, Place, places, open_count}
use Rattle.redundancy_cert.specs.Stacks.{node_of, path_of_stack, closed_around, StandsBelow, StandsAround}
use Rattle.redundancy_cert.proofs.Redundant.{open_count-append}
use Rattle.redundancy_cert.proofs.StackLemmas.{closed_stands, open_stands}
use Rattle.pair_sim.specs.Sims.{Sim, sim, assigned}
use Rattle.decisions.specs.declared.cases.Case.{Case}
use Rattle.decisions.specs.declared.turns.Step.{Step}
use Rattle.decisions.specs.declared.turns.Step.TheVariants.{Found as AtTest, Done, On}
use Rattle.decisions.specs.Climbing.{AreFree, IsAtEnd, IsBacktrackStep, with_side}
use Rattle.netlist.specs.Conditions.{IsSound}
use Rattle.evidence.specs.declared.engine.Found.{Found}
use Rattle.evidence.specs.declared.engine.Found.TheVariants.{Test as Tested, Closed as Whole, Refuted, Partial}
use Rattle.decisions.specs.Standing.{AsksFit, MayEnd, IsClosedTree}
use Rattle.decisions.specs.Turns.{IsSearchStep}
use Rattle.decisions.proofs.Standing.{push_turn}
use Rattle.podem.proofs.Steps.{split}
use Rattle.podem.specs.Sources.{PlaceInSources}
use Rattle.podem.specs.inner.Searching.{IsAt, IsChosen, PlaceLooked, IsEndSeen, IsTestAt, IsAnswer, IsSettled}
use Rattle.podem.proofs.Turns.{only_sources, none_only, source_fits}

-- ---- trees without Open

module _ (looks : Bool) (f : Fault) (n : Netlist) (holds : Holds) where
  none_open : (t : Tree) (path : Path) → open_count (preorder t) ≡ 0 → All (PlaceLooked looks f n holds) (places path t) → All (PlaceInSources f n holds) (places path t)
  none_open ClosedEnd path z h =
      let here : Place = record { path = path; node = Closed } in
      All-cons (PlaceInSources f n holds) here [] (All-head (PlaceLooked looks f n holds) here [] h) (All-nil (PlaceInSources f n holds))
  none_open OpenEnd path z h = absurd (omega (arith, z))
  none_open (SplitOn x t u) path z h =
      let left : Path = (x, false) ∷ path in
      let right : Path = (x, true) ∷ path in
      let here : Place = record { path = path; node = Split x } in
      let below = All-tail (PlaceLooked looks f n holds) here (places left t ++ places right u) h in
      let c = open_count-append (preorder t) (preorder u) in
      let zt : open_count (preorder t) ≡ 0 = omega arith in
      let zu : open_count (preorder u) ≡ 0 = omega arith in
      All-cons (PlaceInSources f n holds) here (places left t ++ places right u) (All-head (PlaceLooked looks f n holds) here (places left t ++ places right u) h)
      (All-append (PlaceInSources f n holds) (places left t) (places right u)
      (none_open t left zt (all_left (PlaceLooked looks f n holds) (places left t) (places right u) below))
      (none_open u right zu (all_right (PlaceLooked looks f n holds) (places left t) (places right u) below)))
  none_open (ForcedTo x b t) path z h =
      let side : Path = (x, b) ∷ path in
      let here : Place = record { path = path; node = Forced x b } in
      All-cons (PlaceInSources f n holds) here (places side t) (All-head (PlaceLooked looks f n holds) here (places side t) h)
      (none_open t side z (All-tail (PlaceLooked looks f n holds) here (places side t) h))

  pub closed_in_sources : {nodes : List Node} {k : ℕ} → IsClosedTree (PlaceLooked looks f n holds) nodes k → IsClosedTree (PlaceInSources f n holds) nodes k
  closed_in_sources {nodes} w = record {
    tree_is = (w.tree_is.0, w.tree_is.1, none_open w.tree_is.0 [] (subst (λ (ns : List Node). open_count ns ≡ 0) (sym w.tree_is.1) w.none_open) w.tree_is.2);
    none_open = w.none_open;
    counted = w.counted;
  }

  -- ---- the end of the path

  free_looked : (p : Path) (ss : List Side) → StandsAround (PlaceLooked looks f n holds) p ss → AreFree f n holds p ss
  free_looked p [] h = tt
  free_looked p (r ∷ ss) h = (free r.signal r.bit r.other h.0, free_looked ((r.signal, r.bit) ∷ p) ss h.2)
    where
      free : (x : ℕ) (b : Bool) (o : Other) → PlaceLooked looks f n holds (record { path = p; node = node_of x b o }) → IsUnknown f n holds p x
      free x b Untried k = k.0.1
      free x b (Searched t) k = k.0.1
      free x b Shut k = k.0.1

-- where both sides are looked at, an Open stands as in a tree on sources
pub looked_in_sources : (f : Fault) (n : Netlist) (holds : Holds) (p : Place) → PlaceLooked true f n holds p → PlaceInSources f n holds p
looked_in_sources f n holds p h = node_in p.path p.node h
  where
    node_in : (path : Path) (node : Node) → PlaceLooked true f n holds (record { path = path; node = node }) → PlaceInSources f n holds (record { path = path; node = node })
    node_in path Closed h = h
    node_in path Open h = h refl
    node_in path (Split x) h = h
    node_in path (Forced x b) h = h

pub end_looked : (c : Case) {looks : Bool} {s : Sim} {stack : List Side} → IsAt c looks s stack → IsAtEnd s.fault s.netlist s.holds s stack
end_looked c {looks} {s} {stack} w = subst (λ (r : Sim). IsAtEnd r.fault r.netlist r.holds s stack) (sym w.at)
    (record { at = w.at; free = free_looked looks c.fault c.core.now c.holds.now [] stack w.around })

-- what is seen of the path's end
pub test_at_end : (c : Case) {looks : Bool} {s : Sim} {stack : List Side} → IsAt c looks s stack → (point : Point) → IsTestPath s.fault s.netlist s.holds s.path point → IsTestAt c s point
test_at_end c {looks} {s} {stack} w point t = record {
  path = path_of_stack stack;
  at = w.at;
  test = subst (λ (r : Sim). IsTestPath r.fault r.netlist r.holds r.path point) w.at t;
  only = only_sources c.fault c.core.now c.holds.now looks stack [] (none_only c.fault c.core.now c.holds.now) w.around;
}

pub closed_at_end : (c : Case) {looks : Bool} {s : Sim} {stack : List Side} → IsAt c looks s stack → IsClosedPath s.fault s.netlist s.holds s.path
    → MayEnd (PlaceLooked looks c.fault c.core.now c.holds.now) c.fault c.core.now c.holds.now s stack (Closed ∷ [])
closed_at_end c {looks} {s} {stack} w h = record {
  is = w;
  stands = closed_stands (PlaceLooked looks c.fault c.core.now c.holds.now) (path_of_stack stack) (subst (λ (r : Sim). IsClosedPath r.fault r.netlist r.holds r.path) w.at h);
  closed = refl;
}

pub going_at_end : (c : Case) {looks : Bool} {s : Sim} {stack : List Side} → IsAt c looks s stack → IsGoingPath s.fault s.netlist s.holds s.path
    → IsGoingPath c.fault c.core.now c.holds.now (path_of_stack stack)
going_at_end c w h = subst (λ (r : Sim). IsGoingPath r.fault r.netlist r.holds r.path) w.at h

-- ---- whether a turn has seen the path's end

pub going_there : {f : Fault} {n : Netlist} {holds : Holds} (s : Sim) (path : Path) → s ≡ sim n f holds path → IsGoingPath f n holds path → IsGoingPath s.fault s.netlist s.holds s.path
going_there s path e h = subst (λ (r : Sim). IsGoingPath r.fault r.netlist r.holds r.path) (sym e) h

pub going_assigned : (s new : Sim) (x : ℕ) (b : Bool) → new ≡ assigned s x b → IsGoingPath s.fault s.netlist s.holds ((x, b) ∷ s.path)
    → IsGoingPath new.fault new.netlist new.holds new.path
going_assigned s new x b e h = subst (λ (r : Sim). IsGoingPath r.fault r.netlist r.holds r.path) (sym e) h

pub end_seen : {E : Type 0} (r : Result Step E) (s : Sim) → IsGoingPath s.fault s.netlist s.holds s.path → IfOk r (IsEndSeen s)
end_seen (Ok (AtTest point)) s h = tt
end_seen (Ok (Done tree)) s h = tt
end_seen (Ok (On true)) s h = tt
end_seen (Ok (On false)) s h = h
end_seen (Err e) s h = tt

pub back_seen : {E : Type 0} (r : Result Step E) (s : Sim) (done : List Node) (old new : List Side) → IfOk r (IsBacktrackStep done old new) → IfOk r (IsEndSeen s)
back_seen (Ok (AtTest point)) s done old new h = tt
back_seen (Ok (Done tree)) s done old new h = tt
back_seen (Ok (On true)) s done old new h = tt
back_seen (Ok (On false)) s done old new h = absurd (both_ways false refl h.0)
back_seen (Err e) s done old new h = tt

pub stepped : {E : Type 0} (A B : Step → Type 0) (r : Result Step E) → IfOk r A → IfOk r B → IfOk r (λ step. A step × B step)
stepped A B (Ok step) a b = (a, b)
stepped A B (Err e) a b = tt

-- A side is gone to that may be gone on with, and the other one isn't looked at.
pub own_going : {c : Case} {s : Sim} {stack : List Side} {x : ℕ} {E : Type 0} → IsChosen c false s stack x → (T : Sim → Point → Type 0) (b : Bool) (new : Sim) (stack' : List Side) (r : Result Step E)
    → IsGoingPath c.fault c.core.now c.holds.now ((x, b) ∷ path_of_stack stack) → new ≡ assigned s x b
    → IfOk r (λ step. (step ≡ On false) × (stack' ≡ with_side stack x b Untried))
    → IfOk r (IsSearchStep (PlaceLooked false c.fault c.core.now c.holds.now) T c.fault c.core.now c.holds.now stack (closed_around stack) new stack')
own_going {c} {s} {stack} {x} w T b new stack' r going a h =
    push_turn (PlaceLooked false c.fault c.core.now c.holds.now) c.fault c.core.now c.holds.now T s new stack stack' x b Untried r refl (record {
      is = w.on.at;
      free = w.chosen.free;
      fits = split w;
      stands = open_stands (PlaceLooked false c.fault c.core.now c.holds.now) ((x, not b) ∷ path_of_stack stack) (λ t. absurd (both_ways false refl t));
      searched = refl;
      going = λ t. going;
    }) a h

-- where a path of the case's labels ends, it does so for the case
pub end_of_case : (c : Case) {looks : Bool} {s : Sim} {stack : List Side} {E : Type 0} → IsAt c looks s stack → (new : Sim) (stack' : List Side) (r : Result Step E) → OnOk r (IsAtEnd s.fault s.netlist s.holds new stack')
    → OnOk r (IsAtEnd c.fault c.core.now c.holds.now new stack')
end_of_case c {looks} {s} {stack} w new stack' r h = subst (λ (q : Sim). OnOk r (IsAtEnd q.fault q.netlist q.holds new stack')) w.at h

-- whether the end of the path is seen after a turn
pub seen_after : (c : Case) (looks more : Bool) (s : Sim) (stack : List Side) → IsAt c looks s stack → PlaceLooked looks c.fault c.core.now c.holds.now (record { path = path_of_stack stack; node = Open })
    → IsEndSeen s (On more) → IsTrue (looks || not more) → IsGoingPath c.fault c.core.now c.holds.now (path_of_stack stack)
seen_after c true more s stack w going seen t = going refl
seen_after c false true s stack w going seen t = absurd (both_ways false refl t)
seen_after c false false s stack w going seen t = going_at_end c w seen

pub within_one : (more : Bool) (closed limit r : ℕ) → closed < limit → r ≡ cond more 1 0 → closed + r ≤ limit
within_one true closed limit r l e = omega arith
within_one false closed limit r l e = omega arith

-- ---- what a search answers

-- that of a search that didn't give up is one with any greater limit too
pub settled_longer : (c : Case) (few limit : ℕ) (found : Found) → few ≤ limit → IsSettled c few found → IsAnswer c limit found
settled_longer c few limit (Tested cube point) l w = record { evidence = w.evidence; sources = w.sources }
settled_longer c few limit (Whole tree) l w = record { evidence = (w.evidence.0, w.evidence.1, (let h = w.evidence.2 in omega arith)); sources = w.sources }
settled_longer c few limit (Refuted steps) l w = absurd w
settled_longer c few limit (Partial tree) l w = absurd w

-- the tree of a search that gives up, where both sides are looked at
pub fits_looked : (f : Fault) (n : Netlist) (holds : Holds) → IsSound n → AsksFit (PlaceLooked true f n holds) f n holds
fits_looked f n holds sound p h = source_fits f n holds sound p (looked_in_sources f n holds p h)

pub tree_looked : (f : Fault) (n : Netlist) (holds : Holds) {nodes : List Node} → StandsBelow (PlaceLooked true f n holds) [] nodes → StandsBelow (PlaceInSources f n holds) [] nodes
tree_looked f n holds w = (w.0, w.1, λ k d i. looked_in_sources f n holds _ (w.2 k d i))
