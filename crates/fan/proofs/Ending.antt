-- Where a stack's path ends, and where a search begins.
use Rattle.std.proofs.Common.{◌≡◌, ℕ, zero, suc, ◌+◌, ◌-◌, ◌<◌, ◌≤◌, List, [], ◌∷◌, ◌++◌, length, take, Some, None, refl, sym, ◌∙◌, ap, subst, arith}
use Rattle.std.specs.List.{All, Contains, slice_get}
use Rattle.std.proofs.lemmas.List.Elements.{All-nil, All-head}
use Rattle.statement.specs.declared.lines.Point.{Point}
use Rattle.statement.specs.Netlists.{signals}
use Rattle.netlist.specs.Conditions.{IsSound}
use Rattle.netlist.proofs.Lists.{all_left, all_right}
use Rattle.tri.specs.Paths.{IsClosedPath, IsTestPath, IsGoingPath}
use Rattle.redundancy_cert.specs.declared.nodes.Node.{Node}
use Rattle.redundancy_cert.specs.declared.nodes.Node.TheVariants.{Closed}
use Rattle.redundancy_cert.specs.declared.stacks.Side.{Side}
use Rattle.redundancy_cert.specs.Stacks.{path_of_stack}
use Rattle.redundancy_cert.proofs.StackLemmas.{stack_onto-append, closed_stands}
use Rattle.pair_sim.specs.declared.states.State.{State}
use Rattle.pair_sim.specs.declared.states.State.TheVariants.{Test, Blocked, Going}
use Rattle.pair_sim.specs.Sims.{Sim, sim, IsState}
use Rattle.head_lines.specs.Justified.{IsMet}
use Rattle.decisions.specs.declared.cases.Case.{Case}
use Rattle.decisions.specs.Standing.{IsClosedTree}
use Rattle.decisions.proofs.Finish.{whole_evidence}
use Rattle.evidence.specs.declared.engine.Found.TheVariants.{Closed as Whole}
use Rattle.fan.specs.Trees.{IsLeftOpen, PlaceStands}
use Rattle.fan.specs.inner.Searching.{IsOnPath, IsBeside, IsStand, IsAnswer}
use Rattle.fan.proofs.States.{met_if, going_left_open}
use Rattle.fan.proofs.Turns.{none_on, stands_fits}

-- ---- the last side

some_there : (stack : List Side) (k : ℕ) → k < length stack → slice_get stack k ≡ None → ⊥
some_there [] k l h = absurd (omega (arith, l))
some_there (r ∷ ss) zero l h = cc
some_there (r ∷ ss) (suc k) l h = some_there ss k (omega arith) h

pub none_last : (stack : List Side) (k : ℕ) → k ≡ length stack - 1 → None ≡ slice_get stack k → stack ≡ []
none_last [] k e h = refl
none_last (r ∷ ss) k e h = absurd (some_there (r ∷ ss) k (omega arith) (sym h))

empty_if : (stack : List Side) → length stack ≡ 0 → stack ≡ []
empty_if [] e = refl
empty_if (r ∷ ss) e = absurd (omega (arith, e))

last_there : (stack : List Side) (k : ℕ) (q : Side) → k + 1 ≡ length stack → Some q ≡ slice_get stack k → stack ≡ take k stack ++ q ∷ []
last_there [] k q e h = absurd (omega (arith, e))
last_there (r ∷ ss) zero q e h = let none = empty_if ss (omega arith) in let same : q ≡ r = cc in ap (λ (ts : List Side). r ∷ ts) none ∙ ap (λ (p : Side). p ∷ []) (sym same)
last_there (r ∷ ss) (suc k) q e h = ap (λ (ts : List Side). r ∷ ts) (last_there ss k q (omega arith) h)

pub last_of : (stack : List Side) (k : ℕ) (q : Side) → k ≡ length stack - 1 → Some q ≡ slice_get stack k → stack ≡ take k stack ++ q ∷ []
last_of [] k q e h = absurd cc
last_of (r ∷ ss) k q e h = last_there (r ∷ ss) k q (omega arith) h

-- a stack's path is that of the sides before its last one, with this one more
pub last_beside : (k : Case) (s : Sim) (stack before : List Side) (r : Side) → IsOnPath k s stack → stack ≡ before ++ r ∷ [] → IsBeside k s before r.signal
last_beside k s stack before r w e =
    let sides : All (λ (q : Side). Contains (signals k.core.now) q.signal) (before ++ r ∷ []) = subst (All (λ (q : Side). Contains (signals k.core.now) q.signal)) e w.sides in
    record {
      bit = r.bit;
      at = w.at ∙ ap (sim k.core.now k.fault k.holds.now) (ap path_of_stack e ∙ stack_onto-append [] before r);
      signal = All-head (λ (q : Side). Contains (signals k.core.now) q.signal) r [] (all_right (λ (q : Side). Contains (signals k.core.now) q.signal) before (r ∷ []) sides);
      sides = all_left (λ (q : Side). Contains (signals k.core.now) q.signal) before (r ∷ []) sides;
    }

-- ---- without decisions

module _ (k : Case) (sound : IsSound k.core.now) (s : Sim) (start : s ≡ sim k.core.now k.fault k.holds.now []) where
  test_at_start : (point : Point) → IsTestPath s.fault s.netlist s.holds s.path point → IsMet k.fault k.core.now k.holds.now [] point
  test_at_start point t = met_if k sound [] s start point (subst (λ (r : Sim). IsTestPath r.fault r.netlist r.holds r.path point) start t) (λ x b e. absurd cc)

  closed_at_start : IsClosedPath s.fault s.netlist s.holds s.path → IsClosedPath k.fault k.core.now k.holds.now []
  closed_at_start h = subst (λ (r : Sim). IsClosedPath r.fault r.netlist r.holds r.path) start h

  open_at_start : IsGoingPath s.fault s.netlist s.holds s.path → IsLeftOpen k.fault k.core.now k.holds.now []
  open_at_start h = going_left_open k.fault k.core.now k.holds.now sound [] (subst (λ (r : Sim). IsGoingPath r.fault r.netlist r.holds r.path) start h)

-- where the stack is empty the labels tell where its path stands
pub stands_first : (k : Case) → IsSound k.core.now → (s : Sim) (stack : List Side) → IsOnPath k s stack → stack ≡ [] → (st : State) → IsState s st → IsStand k (path_of_stack stack) st
stands_first k sound s stack w empty st h = subst (λ (ss : List Side). IsStand k (path_of_stack ss) st) (sym empty) (at_start st h)
  where
    start : s ≡ sim k.core.now k.fault k.holds.now []
    start = w.at ∙ ap (λ (ss : List Side). sim k.core.now k.fault k.holds.now (path_of_stack ss)) empty

    at_start : (t : State) → IsState s t → IsStand k [] t
    at_start (Test point) g = test_at_start k sound s start point g
    at_start Blocked g = closed_at_start k sound s start g
    at_start Going g = open_at_start k sound s start g

pub on_start : (k : Case) (s : Sim) (stack : List Side) → s ≡ sim k.core.now k.fault k.holds.now [] → stack ≡ [] → IsOnPath k s stack
on_start k s stack start empty = subst (IsOnPath k s) (sym empty) (record { at = start; on = none_on k.fault k.core.now k.holds.now; sides = All-nil _ })

-- the tree of a path that is closed without a decision
pub closed_answer : (k : Case) (limit : ℕ) (stack : List Side) (nodes : List Node) → stack ≡ [] → nodes ≡ Closed ∷ [] → IsClosedPath k.fault k.core.now k.holds.now (path_of_stack stack)
    → 1 ≤ limit → IsAnswer k limit (Whole nodes)
closed_answer k limit stack nodes empty e h l =
    let f = k.fault in
    let n = k.core.now in
    let holds = k.holds.now in
    let there : IsClosedPath f n holds [] = subst (λ (ss : List Side). IsClosedPath f n holds (path_of_stack ss)) empty h in
    let tree : IsClosedTree (PlaceStands f n holds) (Closed ∷ []) 1 = record { tree_is = closed_stands (PlaceStands f n holds) [] there; none_open = refl; counted = refl } in
    subst (λ (ns : List Node). IsAnswer k limit (Whole ns)) (sym e) (whole_evidence (stands_fits f n holds) tree l, tree.tree_is)
