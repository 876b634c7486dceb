-- What a turn decides, and that something is left to decide.
use Rattle.std.proofs.Common.{◌≡◌, ℕ, ◌+◌, Bool, true, false, cond, map, List, [], ◌∷◌, Some, eqb, refl, sym, ◌∙◌, ap, subst, arith}
use Rattle.std.proofs.lemmas.Bool.{eqb-true}
use Rattle.std.specs.Option.{is_none}
use Rattle.std.specs.List.{All, Contains}
use Rattle.std.proofs.lemmas.List.Elements.{All-head, All-tail, All-append, All-contains}
use Rattle.statement.specs.declared.kinds.Tri.TheVariants.{X}
use Rattle.statement.specs.Patterns.{Holds}
use Rattle.statement.specs.declared.lines.Point.{Point}
use Rattle.statement.specs.Netlists.{Definition, Netlist, cells}
use Rattle.netlist.proofs.Lists.{All-from_contains}
use Rattle.tri.specs.Paths.{Path, decisions, IsUnknown, IsTestPath}
use Rattle.redundancy_cert.specs.declared.nodes.Node.TheVariants.{Split}
use Rattle.redundancy_cert.specs.declared.stacks.Side.{Side}
use Rattle.redundancy_cert.specs.Stacks.{path_of_stack}
use Rattle.decisions.specs.declared.cases.Case.{Case}
use Rattle.decisions.specs.Cases.{sim_of}
use Rattle.pair_sim.specs.Sims.{Sim, assigned, HasGood}
use Rattle.decisions.specs.Standing.{MayDecide}
use Rattle.decisions.specs.Turns.{undecided}
use Rattle.decisions.proofs.Standing.{of_case}
use Rattle.podem.specs.Sources.{all_sources, sources}
use Rattle.podem.specs.inner.Searching.{IsAt, PlaceLooked, MayGoOn, IsFreeSource, IsChosen, IsKnownAt, IsTestAt, OnSources, IsKept}
use Rattle.podem.proofs.Turns.{going_open, only_sources, none_only, known_decided}
use Rattle.podem.proofs.Ends.{not_going}
use Rattle.podem.proofs.Owns.{source_signal, any_source, free_is_source}

pub one_more_source : (n : Netlist) (holds : Holds) (x : ℕ) (b : Bool) (p : Path) → OnSources n holds p → Contains (sources n holds) x → OnSources n holds ((x, b) ∷ p)
one_more_source n holds x b p h k y c e =
    let step : (t : Bool) → eqb y x ≡ t → cond t (Some b) (decisions p y) ≡ Some c → Contains (sources n holds) y =
    elim [
      | true ↦ λ m q. subst (Contains (sources n holds)) (sym (eqb-true y x m)) k
      | false ↦ λ m q. h y c q
    ] in
    step (eqb y x) refl e

module _ {c : Case} {looks : Bool} {s : Sim} {stack : List Side} {x : ℕ} (w : IsChosen c looks s stack x) where
  on_sources : OnSources c.core.now c.holds.now (path_of_stack stack)
  on_sources = only_sources c.fault c.core.now c.holds.now looks stack [] (none_only c.fault c.core.now c.holds.now) w.on.at.around

  pub test_there : (new : Sim) (b : Bool) (point : Point) → new ≡ assigned s x b → IsTestPath s.fault s.netlist s.holds ((x, b) ∷ s.path) point → IsTestAt c new point
  test_there new b point a t = record {
    path = (x, b) ∷ path_of_stack stack;
    at = a ∙ ap (λ (r : Sim). assigned r x b) w.on.at.at;
    test = subst (λ (r : Sim). IsTestPath r.fault r.netlist r.holds ((x, b) ∷ r.path) point) w.on.at.at t;
    only = one_more_source c.core.now c.holds.now x b (path_of_stack stack) on_sources w.chosen.source;
  }

  -- it may be split on, or forced where one side is closed
  pub split : PlaceLooked looks c.fault c.core.now c.holds.now (record { path = path_of_stack stack; node = Split x })
  split = ((going_open c.fault c.core.now c.holds.now w.on.case.sound (path_of_stack stack) w.on.going, w.chosen.free), w.chosen.source)

  pub may_decide : MayDecide (PlaceLooked looks c.fault c.core.now c.holds.now) c.fault c.core.now c.holds.now s stack x
  may_decide = record {
    is = w.on.at;
    free = w.chosen.free;
    forced = λ b shut. ((going_open c.fault c.core.now c.holds.now w.on.case.sound (path_of_stack stack) w.on.going, w.chosen.free, shut), w.chosen.source);
  }

pub tested_case : {c : Case} {s : Sim} {point : Point} → IsTestAt c s point → IsKept c s
tested_case {c} {s} w = of_case c.fault c.core.now c.holds.now s w.path w.at

-- where no source is X the search can't go on
none_left : (path : Path) (ids : List ℕ) → All (λ x. is_none (decisions path x) ≡ false) ids → undecided path ids ≡ 0
none_left path [] h = refl
none_left path (x ∷ xs) h =
    let e = All-head (λ y. is_none (decisions path y) ≡ false) x xs h in
    let r = none_left path xs (All-tail (λ y. is_none (decisions path y) ≡ false) x xs h) in
    zero_sum (is_none (decisions path x)) (undecided path xs) e r
  where
    zero_sum : (b : Bool) (k : ℕ) → b ≡ false → k ≡ 0 → cond b 1 0 + k ≡ 0
    zero_sum true k p q = absurd cc
    zero_sum false k p q = omega arith

pub some_free : {c : Case} {looks : Bool} {s : Sim} {stack : List Side} → MayGoOn c looks s stack → All (IsKnownAt s) c.core.now.inputs → All (IsKnownAt s) (map (λ (d : Definition). d.id) (cells c.core.now)) → ⊥
some_free {c} {looks} {s} {stack} w inputs states =
    let f = c.fault in
    let n = c.core.now in
    let holds = c.holds.now in
    let path : Path = path_of_stack stack in
    let all : All (IsKnownAt s) (all_sources n) = All-append (IsKnownAt s) n.inputs (map (λ (d : Definition). d.id) (cells n)) inputs states in
    let decided : All (λ x. is_none (decisions path x) ≡ false) (sources n holds) =
    All-from_contains (λ x. is_none (decisions path x) ≡ false) (sources n holds)
    (λ x m. let k = All-contains (IsKnownAt s) (all_sources n) x all (any_source n holds x m) in
    known_decided f n holds path x k.0 m (subst (λ (r : Sim). HasGood r x k.0) w.at.at k.1) k.2) in
    not_going f n holds w.case.sound path (none_left path (sources n holds) decided) (only_sources f n holds looks stack [] (none_only f n holds) w.at.around) w.going

pub chosen_from : {c : Case} {looks : Bool} {s : Sim} {stack : List Side} → IsAt c looks s stack → (x : ℕ) → Contains (all_sources c.core.now) x → HasGood s x X → IsFreeSource c stack x
chosen_from {c} {looks} {s} {stack} w x m h =
    let path : Path = path_of_stack stack in
    let g : HasGood (sim_of c path) x X = subst (λ (r : Sim). HasGood r x X) w.at h in
    let free : IsUnknown c.fault c.core.now c.holds.now path x = record { label = g.label; are = g.are; signal = source_signal c.core.now x m; unknown = g.good } in
    record { source = free_is_source c.fault c.core.now c.holds.now path x m free; free = free }
