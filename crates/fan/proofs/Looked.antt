-- Where the other sides of decisions aren't looked at: what stands on the stack, the end of its path, and trees without Open.
use Rattle.std.proofs.Common.{Result, Ok, Err, ◌≡◌, ℕ, ◌+◌, ◌<◌, ◌≤◌, Bool, true, false, not, cond, List, [], ◌∷◌, ◌++◌, Option, Some, None, refl, sym, subst, arith}
use Rattle.std.specs.Prelude.{IfOk, IfSome, OnOk, IsTrue, ◌||◌}
use Rattle.std.specs.List.{All, Contains}
use Rattle.std.proofs.lemmas.Bool.{both_ways}
use Rattle.std.proofs.lemmas.List.Elements.{All-nil, All-cons, All-head, All-tail, All-append}
use Rattle.statement.specs.declared.lines.Fault.{Fault}
use Rattle.statement.specs.declared.lines.Point.{Point}
use Rattle.statement.specs.Patterns.{Holds}
use Rattle.statement.specs.Netlists.{Netlist, signals}
use Rattle.netlist.proofs.Lists.{all_left, all_right}
use Rattle.tri.specs.Paths.{Path, IsClosedPath, IsUnknown}
use Rattle.redundancy_cert.specs.declared.nodes.Node.{Node}
use Rattle.redundancy_cert.specs.declared.nodes.Node.TheVariants.{Closed, Open, Split, Forced}
use Rattle.redundancy_cert.specs.declared.stacks.Other.{Other}
use Rattle.redundancy_cert.specs.declared.stacks.Other.TheVariants.{Untried, Searched, Shut}
use Rattle.redundancy_cert.specs.declared.stacks.Side.{Side}
use Rattle.redundancy_cert.specs.Trees.{Tree, ClosedEnd, OpenEnd, SplitOn, ForcedTo, preorder, Place, places, open_count}
use Rattle.redundancy_cert.specs.Stacks.{node_of, path_of_stack, closed_around, StandsBelow, StandsAround}
use Rattle.redundancy_cert.proofs.Redundant.{open_count-append}
use Rattle.redundancy_cert.proofs.StackLemmas.{closed_stands, open_stands}
use Rattle.pair_sim.specs.Sims.{Sim, sim, assigned}
use Rattle.head_lines.specs.declared.roles.Role.{Role}
use Rattle.head_lines.specs.HeadLines.{AreRoles}
use Rattle.head_lines.specs.Justified.{IsMet, IsMetAt}
use Rattle.decisions.specs.declared.cases.Case.{Case}
use Rattle.decisions.specs.declared.turns.Step.{Step}
use Rattle.decisions.specs.declared.turns.Step.TheVariants.{Found as AtTest, Done, On}
use Rattle.decisions.specs.Climbing.{AreFree, IsAtEnd, IsBacktrackStep, with_side}
use Rattle.decisions.specs.Standing.{AsksFit, MayEnd, IsClosedTree}
use Rattle.decisions.specs.Turns.{IsSearchStep}
use Rattle.decisions.proofs.Standing.{push_turn}
use Rattle.evidence.specs.declared.engine.Found.{Found}
use Rattle.evidence.specs.declared.engine.Found.TheVariants.{Test as Tested, Closed as Whole, Refuted, Partial}
use Rattle.fan.specs.declared.cases.RoledCase.{RoledCase}
use Rattle.fan.specs.Trees.{IsLeftOpen, PlaceStands}
use Rattle.fan.specs.inner.Searching.{IsAt, IsOnPath, PlaceLooked, IsEndSeen, IsAnswer, IsSettled, IsTested}
use Rattle.fan.proofs.Placing.{places_may}
use Rattle.fan.proofs.Turns.{all_on, none_on, stands_fits}

-- ---- trees without Open

module _ (looks : Bool) (f : Fault) (n : Netlist) (holds : Holds) where
  none_open : (t : Tree) (path : Path) → open_count (preorder t) ≡ 0 → All (PlaceLooked looks f n holds) (places path t) → All (PlaceStands f n holds) (places path t)
  none_open ClosedEnd path z h =
      let here : Place = record { path = path; node = Closed } in
      All-cons (PlaceStands f n holds) here [] (All-head (PlaceLooked looks f n holds) here [] h) (All-nil (PlaceStands f n holds))
  none_open OpenEnd path z h = absurd (omega (arith, z))
  none_open (SplitOn x t u) path z h =
      let left : Path = (x, false) ∷ path in
      let right : Path = (x, true) ∷ path in
      let here : Place = record { path = path; node = Split x } in
      let below = All-tail (PlaceLooked looks f n holds) here (places left t ++ places right u) h in
      let c = open_count-append (preorder t) (preorder u) in
      let zt : open_count (preorder t) ≡ 0 = omega arith in
      let zu : open_count (preorder u) ≡ 0 = omega arith in
      All-cons (PlaceStands f n holds) here (places left t ++ places right u) (All-head (PlaceLooked looks f n holds) here (places left t ++ places right u) h)
      (All-append (PlaceStands f n holds) (places left t) (places right u)
      (none_open t left zt (all_left (PlaceLooked looks f n holds) (places left t) (places right u) below))
      (none_open u right zu (all_right (PlaceLooked looks f n holds) (places left t) (places right u) below)))
  none_open (ForcedTo x b t) path z h =
      let side : Path = (x, b) ∷ path in
      let here : Place = record { path = path; node = Forced x b } in
      All-cons (PlaceStands f n holds) here (places side t) (All-head (PlaceLooked looks f n holds) here (places side t) h)
      (none_open t side z (All-tail (PlaceLooked looks f n holds) here (places side t) h))

  pub closed_on_places : {nodes : List Node} {k : ℕ} → IsClosedTree (PlaceLooked looks f n holds) nodes k → IsClosedTree (PlaceStands f n holds) nodes k
  closed_on_places {nodes} w = record {
    tree_is = (w.tree_is.0, w.tree_is.1, none_open w.tree_is.0 [] (subst (λ (ns : List Node). open_count ns ≡ 0) (sym w.tree_is.1) w.none_open) w.tree_is.2);
    none_open = w.none_open;
    counted = w.counted;
  }

  -- ---- what stands on the stack

  free_looked : (p : Path) (ss : List Side) → StandsAround (PlaceLooked looks f n holds) p ss → AreFree f n holds p ss
  free_looked p [] h = tt
  free_looked p (r ∷ ss) h = (free r.signal r.bit r.other h.0, free_looked ((r.signal, r.bit) ∷ p) ss h.2)
    where
      free : (x : ℕ) (b : Bool) (o : Other) → PlaceLooked looks f n holds (record { path = p; node = node_of x b o }) → IsUnknown f n holds p x
      free x b Untried k = k.0.1
      free x b (Searched t) k = k.0.1
      free x b Shut k = k.0.1

  -- what a stack decides are signals
  sides_signals : (p : Path) (stack : List Side) → AreFree f n holds p stack → All (λ (r : Side). Contains (signals n) r.signal) stack
  sides_signals p [] h = All-nil _
  sides_signals p (r ∷ ss) h = All-cons (λ (q : Side). Contains (signals n) q.signal) r ss h.0.signal (sides_signals ((r.signal, r.bit) ∷ p) ss h.1)

-- where both sides are looked at, an Open stands as in a tree on places
pub looked_on_places : (f : Fault) (n : Netlist) (holds : Holds) (p : Place) → PlaceLooked true f n holds p → PlaceStands f n holds p
looked_on_places f n holds p h = node_on p.path p.node h
  where
    node_on : (path : Path) (node : Node) → PlaceLooked true f n holds (record { path = path; node = node }) → PlaceStands f n holds (record { path = path; node = node })
    node_on path Closed h = h
    node_on path Open h = h refl
    node_on path (Split x) h = h
    node_on path (Forced x b) h = h

pub on_path : (r : RoledCase) {roles : List Role} {s : Sim} {stack : List Side} → AreRoles r.case.fault r.case.core.now r.case.holds.now roles → IsAt r s stack → IsOnPath r.case s stack
on_path r {roles} {s} {stack} are w =
    let f : Fault = r.case.fault in
    let n : Netlist = r.case.core.now in
    let holds : Holds = r.case.holds.now in
    record {
      at = w.at;
      on = all_on f n holds (places_may f n holds roles are) r.looks stack [] (none_on f n holds) w.around;
      sides = sides_signals r.looks f n holds [] stack (free_looked r.looks f n holds [] stack w.around);
    }

-- ---- the end of the path

pub end_looked : (r : RoledCase) {s : Sim} {stack : List Side} → IsAt r s stack → IsAtEnd s.fault s.netlist s.holds s stack
end_looked r {s} {stack} w = subst (λ (q : Sim). IsAtEnd q.fault q.netlist q.holds s stack) (sym w.at)
    (record { at = w.at; free = free_looked r.looks r.case.fault r.case.core.now r.case.holds.now [] stack w.around })

-- labels that came back
pub end_back : (r : RoledCase) {s : Sim} {stack : List Side} → IsAt r s stack → (back : Sim) → back ≡ s → IsAtEnd back.fault back.netlist back.holds back stack
end_back r {s} {stack} w back e = subst (λ (q : Sim). IsAtEnd q.fault q.netlist q.holds q stack) (sym e) (end_looked r w)

-- what is seen of the path's end
pub met_at_end : {k : Case} {s : Sim} {stack : List Side} → IsOnPath k s stack → (point : Point) → IsMet k.fault k.core.now k.holds.now (path_of_stack stack) point
    → IsMetAt k.fault k.core.now k.holds.now s point
met_at_end {k} {s} {stack} w point met = record { path = path_of_stack stack; at = w.at; on = w.on; met = met }

pub closed_at_end : (r : RoledCase) {s : Sim} {stack : List Side} → IsAt r s stack → IsClosedPath r.case.fault r.case.core.now r.case.holds.now (path_of_stack stack)
    → MayEnd (PlaceLooked r.looks r.case.fault r.case.core.now r.case.holds.now) r.case.fault r.case.core.now r.case.holds.now s stack (Closed ∷ [])
closed_at_end r {s} {stack} w h = record {
  is = w;
  stands = closed_stands (PlaceLooked r.looks r.case.fault r.case.core.now r.case.holds.now) (path_of_stack stack) h;
  closed = refl;
}

-- where a path of the case's labels ends, it does so for the case
pub end_of_case : (r : RoledCase) {s : Sim} {stack : List Side} {E : Type 0} → IsAt r s stack → (new : Sim) (stack' : List Side) (o : Result Step E) → OnOk o (IsAtEnd s.fault s.netlist s.holds new stack')
    → OnOk o (IsAtEnd r.case.fault r.case.core.now r.case.holds.now new stack')
end_of_case r {s} {stack} w new stack' o h = subst (λ (q : Sim). OnOk o (IsAtEnd q.fault q.netlist q.holds new stack')) w.at h

-- ---- whether a turn has seen the path's end

pub open_there : {f : Fault} {n : Netlist} {holds : Holds} (s : Sim) (path : Path) → s ≡ sim n f holds path → IsLeftOpen f n holds path → IsLeftOpen s.fault s.netlist s.holds s.path
open_there s path e h = subst (λ (r : Sim). IsLeftOpen r.fault r.netlist r.holds r.path) (sym e) h

pub open_assigned : (s new : Sim) (x : ℕ) (b : Bool) → new ≡ assigned s x b → IsLeftOpen s.fault s.netlist s.holds ((x, b) ∷ s.path)
    → IsLeftOpen new.fault new.netlist new.holds new.path
open_assigned s new x b e h = subst (λ (r : Sim). IsLeftOpen r.fault r.netlist r.holds r.path) (sym e) h

pub end_seen : {E : Type 0} (o : Result Step E) (s : Sim) → IsLeftOpen s.fault s.netlist s.holds s.path → IfOk o (IsEndSeen s)
end_seen (Ok (AtTest point)) s h = tt
end_seen (Ok (Done tree)) s h = tt
end_seen (Ok (On true)) s h = tt
end_seen (Ok (On false)) s h = h
end_seen (Err e) s h = tt

pub back_seen : {E : Type 0} (o : Result Step E) (s : Sim) (done : List Node) (old new : List Side) → IfOk o (IsBacktrackStep done old new) → IfOk o (IsEndSeen s)
back_seen (Ok (AtTest point)) s done old new h = tt
back_seen (Ok (Done tree)) s done old new h = tt
back_seen (Ok (On true)) s done old new h = tt
back_seen (Ok (On false)) s done old new h = absurd (both_ways false refl h.0)
back_seen (Err e) s done old new h = tt

pub stepped : {E : Type 0} (A B : Step → Type 0) (o : Result Step E) → IfOk o A → IfOk o B → IfOk o (λ step. A step × B step)
stepped A B (Ok step) a b = (a, b)
stepped A B (Err e) a b = tt

-- A side is gone to that may be gone on with, and the other one isn't looked at.
pub own_going : (r : RoledCase) {s : Sim} {stack : List Side} {x : ℕ} {E : Type 0} → r.looks ≡ false → IsAt r s stack → IsUnknown r.case.fault r.case.core.now r.case.holds.now (path_of_stack stack) x
    → PlaceLooked r.looks r.case.fault r.case.core.now r.case.holds.now (record { path = path_of_stack stack; node = Split x })
    → (T : Sim → Point → Type 0) (b : Bool) (new : Sim) (stack' : List Side) (o : Result Step E) → new ≡ assigned s x b
    → IfOk o (λ step. (step ≡ On false) × (stack' ≡ with_side stack x b Untried))
    → IfOk o (IsSearchStep (PlaceLooked r.looks r.case.fault r.case.core.now r.case.holds.now) T r.case.fault r.case.core.now r.case.holds.now stack (closed_around stack) new stack')
own_going r {s} {stack} {x} hurries w free split T b new stack' o a h =
    push_turn (PlaceLooked r.looks r.case.fault r.case.core.now r.case.holds.now) r.case.fault r.case.core.now r.case.holds.now T s new stack stack' x b Untried o refl (record {
      is = w;
      free = free;
      fits = split;
      stands = open_stands (PlaceLooked r.looks r.case.fault r.case.core.now r.case.holds.now) ((x, not b) ∷ path_of_stack stack) (λ t. absurd (both_ways r.looks hurries t));
      searched = refl;
      going = λ t. absurd (both_ways r.looks hurries t);
    }) a h

-- whether the end of the path is seen after a turn
pub seen_after : (r : RoledCase) (more : Bool) (s : Sim) (stack : List Side) → IsAt r s stack
    → PlaceLooked r.looks r.case.fault r.case.core.now r.case.holds.now (record { path = path_of_stack stack; node = Open })
    → IsEndSeen s (On more) → IsTrue (r.looks || not more) → IsLeftOpen r.case.fault r.case.core.now r.case.holds.now (path_of_stack stack)
seen_after r more s stack w going seen t = by_looks r.looks more going seen t
  where
    by_looks : (looks more : Bool) → (IsTrue looks → IsLeftOpen r.case.fault r.case.core.now r.case.holds.now (path_of_stack stack)) → IsEndSeen s (On more) → IsTrue (looks || not more)
        → IsLeftOpen r.case.fault r.case.core.now r.case.holds.now (path_of_stack stack)
    by_looks true more g e t = g refl
    by_looks false true g e t = absurd (both_ways false refl t)
    by_looks false false g e t = subst (λ (q : Sim). IsLeftOpen q.fault q.netlist q.holds q.path) w.at e

pub within_one : (more : Bool) (closed limit r : ℕ) → closed < limit → r ≡ cond more 1 0 → closed + r ≤ limit
within_one true closed limit r l e = omega arith
within_one false closed limit r l e = omega arith

-- ---- what a search answers

-- that of a search that didn't give up is one with any greater limit too
pub settled_longer : (k : Case) (few limit : ℕ) (found : Found) → few ≤ limit → IsSettled k few found → IsAnswer k limit found
settled_longer k few limit (Tested cube point) l w = w
settled_longer k few limit (Whole tree) l w = ((w.0.0, w.0.1, (let h = w.0.2 in omega arith)), w.1)
settled_longer k few limit (Refuted steps) l w = absurd w
settled_longer k few limit (Partial tree) l w = absurd w

pub some_longer : (k : Case) (few limit : ℕ) (o : Option Found) → few ≤ limit → IfSome o (IsSettled k few) → IfSome o (IsAnswer k limit)
some_longer k few limit None l w = tt
some_longer k few limit (Some found) l w = settled_longer k few limit found l w

-- a test is an answer with any limit
pub tested_settled : (k : Case) (limit : ℕ) (found : Found) → IsTested k found → IsSettled k limit found
tested_settled k limit (Tested cube point) w = (w, tt)
tested_settled k limit (Whole tree) w = absurd w
tested_settled k limit (Refuted steps) w = absurd w
tested_settled k limit (Partial tree) w = absurd w

pub tested_ok : {E : Type 0} (k : Case) (limit : ℕ) (o : Result Found E) → IfOk o (IsTested k) → IfOk o (IsAnswer k limit)
tested_ok k limit (Ok found) w = settled_longer k limit limit found (omega arith) (tested_settled k limit found w)
tested_ok k limit (Err e) w = tt

-- the tree of a search that gives up, where both sides are looked at
pub fits_looked : (f : Fault) (n : Netlist) (holds : Holds) → AsksFit (PlaceLooked true f n holds) f n holds
fits_looked f n holds p h = stands_fits f n holds p (looked_on_places f n holds p h)

pub tree_looked : (f : Fault) (n : Netlist) (holds : Holds) {nodes : List Node} → StandsBelow (PlaceLooked true f n holds) [] nodes → StandsBelow (PlaceStands f n holds) [] nodes
tree_looked f n holds w = (w.0, w.1, λ k d i. looked_on_places f n holds _ (w.2 k d i))
