-- What a search answers at its ends, and why it ends.
use Rattle.std.proofs.Common.{◌≡◌, ℕ, ◌+◌, ◌-◌, ◌*◌, ◌^◌, ◌<◌, ◌≤◌, ◌⊎◌, Bool, true, false, cond, List, [], ◌∷◌, length, refl, sym, ap, subst, inl, inr, arith}
use Rattle.std.proofs.Math.Nat.{mul-le-mul_right}
use Rattle.std.proofs.lemmas.Bool.{both_ways}
use Rattle.std.specs.Option.{is_none}
use Rattle.statement.specs.declared.lines.Fault.{Fault}
use Rattle.statement.specs.declared.lines.Point.{Point}
use Rattle.statement.specs.Patterns.{Holds}
use Rattle.statement.specs.Netlists.{Netlist, signals}
use Rattle.tri.specs.Paths.{Path, decisions}
use Rattle.pair_sim.specs.Sims.{Sim}
use Rattle.redundancy_cert.specs.declared.nodes.Node.{Node}
use Rattle.redundancy_cert.specs.declared.nodes.Node.TheVariants.{Open}
use Rattle.redundancy_cert.specs.declared.stacks.Side.{Side}
use Rattle.redundancy_cert.specs.Trees.{Place, closed_count, open_count, IsOneTree}
use Rattle.redundancy_cert.specs.Fits.{Fits}
use Rattle.redundancy_cert.specs.Stacks.{stack_tree, path_of_stack, StandsBelow, closed_around}
use Rattle.redundancy_cert.proofs.StackLemmas.{open_stands, whole_stands, closed_whole, open_whole}
use Rattle.decisions.specs.declared.turns.Step.TheVariants.{On}
use Rattle.decisions.specs.Standing.{AsksFit, SplitsAmong, SearchesAt, IsClosedTree}
use Rattle.decisions.specs.Turns.{undecided, IsSearchStep}
use Rattle.decisions.proofs.Bounds.{limit_small}

module _ {P : Place → Type 0} {f : Fault} {n : Netlist} {holds : Holds} where
  tree_fits : AsksFit P f n holds → {nodes : List Node} → StandsBelow P [] nodes → Fits f n holds nodes
  tree_fits fit w = (w.0, w.1, λ k d i. fit _ (w.2 k d i))

  -- ---- the search gives up: its tree has an Open, and so more ends than Closed

  partial_tree : {s : Sim} {stack : List Side} {closed : ℕ} {nodes : List Node} → SearchesAt P f n holds s stack closed → nodes ≡ stack_tree stack (Open ∷ []) → StandsBelow P [] nodes
  partial_tree {s} {stack} w e = subst (StandsBelow P []) (sym e) (whole_stands P [] stack (Open ∷ []) w.is.around (open_stands P (path_of_stack stack) w.going))

  pub one_tree : {s : Sim} {stack : List Side} {closed : ℕ} {nodes : List Node} → SearchesAt P f n holds s stack closed → nodes ≡ stack_tree stack (Open ∷ []) → IsOneTree nodes
  one_tree w e = let t = partial_tree w e in (t.0, t.1)

  pub gave_up : AsksFit P f n holds → {s : Sim} {stack : List Side} {closed limit : ℕ} {nodes : List Node} → SearchesAt P f n holds s stack closed → nodes ≡ stack_tree stack (Open ∷ [])
      → limit ≤ closed → closed ≤ limit
      → (Fits f n holds nodes × (closed_count nodes ≡ limit) × (1 ≤ open_count nodes)) × StandsBelow P [] nodes × ((ids : List ℕ) → SplitsAmong P ids → limit < 2 ^ length ids)
  gave_up fit {s} {stack} {closed} {limit} {nodes} w e a b =
      let tree = partial_tree w e in
      let exact : closed_count nodes ≡ limit = (let g = ap closed_count e in let h = closed_whole stack (Open ∷ []) in let k = w.counted in omega arith) in
      let some : 1 ≤ open_count nodes = (let g = ap open_count e in let h = open_whole stack (Open ∷ []) in omega arith) in
      ((tree_fits fit tree, exact, some), tree, λ ids among. limit_small P f n holds fit ids among nodes limit tree exact some)

  -- ---- the tree is whole

  pub whole_evidence : AsksFit P f n holds → {nodes : List Node} {closed limit : ℕ} → IsClosedTree P nodes closed → closed ≤ limit
      → Fits f n holds nodes × (open_count nodes ≡ 0) × (closed_count nodes ≤ limit)
  whole_evidence fit w l = (tree_fits fit w.tree_is, w.none_open, (let c = w.counted in omega arith))

  -- ---- the search ends: of the Closed that are left, and then of undecided signals there are fewer after each turn

  pub ends : (T : Sim → Point → Type 0) (stack stack' : List Side) (new : Sim) (more : Bool) {limit closed add : ℕ} → closed < limit → closed ≡ closed_around stack → add ≡ cond more 1 0
      → IsSearchStep P T f n holds stack (closed_around stack) new stack' (On more)
      → (limit - (closed + add)) * (length (signals n) + 1) + undecided (path_of_stack stack') (signals n)
      < (limit - closed) * (length (signals n) + 1) + undecided (path_of_stack stack) (signals n)
  ends T stack stack' new more {limit} {closed} {add} l c r w =
      smaller limit closed (closed + add) (length (signals n)) (undecided (path_of_stack stack) (signals n)) (undecided (path_of_stack stack') (signals n)) l
      (undecided_many (path_of_stack stack') (signals n))
      (step_cases more closed add (undecided (path_of_stack stack) (signals n)) (undecided (path_of_stack stack') (signals n)) r w.1)
    where
      smaller : (limit closed closed' many u u' : ℕ) → closed < limit → u' ≤ many → ((closed' ≡ closed + 1) ⊎ ((closed' ≡ closed) × (u' < u)))
          → (limit - closed') * (many + 1) + u' < (limit - closed) * (many + 1) + u
      smaller limit closed closed' many u u' l b h = elim h [
        | inl up ↦
            let step : (limit - closed') + 1 ≤ limit - closed = omega arith in
            let m = mul-le-mul_right (many + 1) step in
            omega (arith, m)
        | inr same ↦ let e : closed' ≡ closed = same.0 in let k : u' < u = same.1 in
            let m : (limit - closed') * (many + 1) ≡ (limit - closed) * (many + 1) = ap (λ z. (limit - z) * (many + 1)) e in omega arith
      ]

      undecided_many : (path : Path) (ids : List ℕ) → undecided path ids ≤ length ids
      undecided_many path [] = omega arith
      undecided_many path (x ∷ xs) = let h = undecided_many path xs in let g = one_at_most (is_none (decisions path x)) (undecided path xs) (length xs) h in omega arith
        where
          one_at_most : (b : Bool) (k m : ℕ) → k ≤ m → cond b 1 0 + k ≤ m + 1
          one_at_most true k m l = omega arith
          one_at_most false k m l = omega arith

      step_cases : (more : Bool) (closed r u u' : ℕ) → r ≡ cond more 1 0 → ((more ≡ true) ⊎ (u' < u)) → (closed + r ≡ closed + 1) ⊎ ((closed + r ≡ closed) × (u' < u))
      step_cases true closed r u u' e h = inl (omega arith)
      step_cases false closed r u u' e h = elim h [ inl t ↦ absurd (both_ways true (sym t) refl) | inr k ↦ inr (omega arith, k) ]
