-- The way back over decisions that are done with.
use Rattle.std.proofs.Common.{◌-◌, ◌++◌, ◌+◌, ◌≡◌, ◌≢◌, ℕ, List, [], ◌∷◌, length, length-append, append_assoc, append-nil, get_or, refl, sym, ◌∙◌, ap, subst, arith}
use Rattle.std.proofs.lemmas.List.{get_or-append-add}
use Rattle.std.proofs.lemmas.List.Elements.{All-nil, All-cons, All-head, All-tail}
use Rattle.statement.specs.declared.lines.Fault.{Fault}
use Rattle.statement.specs.Patterns.{Holds}
use Rattle.statement.specs.Netlists.{Netlist}
use Rattle.tri.specs.Paths.{Path, IsUnknown}
use Rattle.pair_sim.specs.Sims.{Sim, sim, assigned, backtracked}
use Rattle.redundancy_cert.specs.declared.nodes.Node.{Node}
use Rattle.redundancy_cert.specs.declared.stacks.Other.{Other}
use Rattle.redundancy_cert.specs.declared.stacks.Other.TheVariants.{Untried, Searched, Shut}
use Rattle.redundancy_cert.specs.declared.stacks.Side.{Side}
use Rattle.redundancy_cert.specs.Trees.{open_count}
use Rattle.redundancy_cert.specs.Stacks.{other_nodes, wrapped, stack_tree, stack_onto, path_of_stack, open_around, searched_open, searched_open_around, IsFlipped, IsClimbed}
use Rattle.redundancy_cert.proofs.StackLemmas.{stack_onto-append, length-stack_onto}
use Rattle.decisions.specs.Climbing.{AreFree, IsAtEnd, AreTried, IsBacktrack, AreAllEnded}

-- ---- sides that are tried

pub tried_if : (o : Other) → open_count (other_nodes o) ≡ searched_open o → o ≢ Untried
tried_if o e u =
    let a = ap (λ (p : Other). open_count (other_nodes p)) u in
    let b = ap searched_open u in
    absurd (omega (arith, e, a, b))

pub tried_open : (ss : List Side) → AreTried ss → open_around ss ≡ searched_open_around ss
tried_open [] h = refl
tried_open (s ∷ ss) h =
    let a = tried_count s.other (All-head (λ (r : Side). r.other ≢ Untried) s ss h) in
    let b = tried_open ss (All-tail (λ (r : Side). r.other ≢ Untried) s ss h) in
    omega arith
  where
    tried_count : (o : Other) → o ≢ Untried → open_count (other_nodes o) ≡ searched_open o
    tried_count Untried n = absurd (n refl)
    tried_count (Searched t) n = refl
    tried_count Shut n = refl

-- ---- the loop: the decisions after these have ended, in this tree

pub record HaveEnded (old : List Side) (first : List Node) (stack : List Side) (done : List Node) : Type 0 where
  pub ended : List Side
  pub was : old ≡ stack ++ ended
  pub tried : AreTried ended
  pub is : done ≡ stack_tree ended first

pub none_ended : (old : List Side) (first : List Node) → HaveEnded old first old first
none_ended old first = record { ended = []; was = sym (append-nil old); tried = All-nil (λ (r : Side). r.other ≢ Untried); is = refl }

pub one_ended : (old : List Side) (first : List Node) (stack stack' : List Side) (done tree : List Node) → HaveEnded old first stack done → IsClimbed done stack stack' tree
    → HaveEnded old first stack' tree
one_ended old first stack stack' done tree w t = record {
  ended = t.last ∷ w.ended;
  was = w.was ∙ (ap (λ (ss : List Side). ss ++ w.ended) t.was ∙ append_assoc stack' (t.last ∷ []) w.ended);
  tried = All-cons (λ (r : Side). r.other ≢ Untried) t.last w.ended (tried_if t.last.other t.tried) w.tried;
  is = t.is ∙ ap (wrapped t.last) w.is;
}

pub back : (old : List Side) (first : List Node) (stack stack' : List Side) (done : List Node) → HaveEnded old first stack done → IsFlipped done stack stack' → IsBacktrack first old stack'
back old first stack stack' done w t = record {
  kept = stack;
  ended = w.ended;
  was = w.was;
  tried = w.tried;
  turned = subst (λ (ns : List Node). IsFlipped ns stack stack') w.is t;
}

pub all_ended : (old : List Side) (first : List Node) (stack : List Side) (done : List Node) → HaveEnded old first stack done → stack ≡ [] → AreAllEnded first old stack done
all_ended old first stack done w e =
    let same : old ≡ w.ended = w.was ∙ ap (λ (ss : List Side). ss ++ w.ended) e in
    record { tried = subst AreTried (sym same) w.tried; none = e; is = w.is ∙ ap (λ (ss : List Side). stack_tree ss first) (sym same) }

-- ---- labels

module _ (f : Fault) (n : Netlist) (holds : Holds) where
  free-append : (p : Path) (ss : List Side) (s : Side) → AreFree f n holds p ss → IsUnknown f n holds (stack_onto p ss) s.signal → AreFree f n holds p (ss ++ s ∷ [])
  free-append p [] s h k = (k, tt)
  free-append p (r ∷ ss) s h k = (h.0, free-append ((r.signal, r.bit) ∷ p) ss s h.1 k)

  free-front : (p : Path) (ss : List Side) (s : Side) → AreFree f n holds p (ss ++ s ∷ []) → AreFree f n holds p ss × IsUnknown f n holds (stack_onto p ss) s.signal
  free-front p [] s h = (tt, h.0)
  free-front p (r ∷ ss) s h = let w = free-front ((r.signal, r.bit) ∷ p) ss s h.1 in ((h.0, w.0), w.1)

  before : (s s' : Sim) (front : List Side) (last : Side) (stack : List Side) → IsAtEnd f n holds s stack → stack ≡ front ++ last ∷ [] → s' ≡ backtracked s
      → IsAtEnd f n holds s' front × IsUnknown f n holds (path_of_stack front) last.signal
  before s s' front last stack w e u =
      let free = free-front [] front last (subst (AreFree f n holds []) e w.free) in (
        record {
          at = u ∙ (ap backtracked w.at ∙ ap (λ p. backtracked (sim n f holds p)) (ap path_of_stack e ∙ stack_onto-append [] front last));
          free = free.0;
        },
        free.1,
      )

  -- a step back
  pub climbed_end : (s s' : Sim) (stack stack' : List Side) (done tree : List Node) → IsAtEnd f n holds s stack → s' ≡ backtracked s → IsClimbed done stack stack' tree → IsAtEnd f n holds s' stack'
  climbed_end s s' stack stack' done tree w u t = (before s s' stack' t.last stack w t.was u).0

  -- the signal of a turn is X before it
  pub turn_free : (s s' : Sim) (stack stack' : List Side) (done : List Node) → IsAtEnd f n holds s stack → s' ≡ backtracked s → (t : IsFlipped done stack stack')
      → IsUnknown s'.fault s'.netlist s'.holds s'.path t.next.signal
  turn_free s s' stack stack' done w u t =
      let b = before s s' t.front t.last stack w t.was u in
      subst (λ (r : Sim). IsUnknown r.fault r.netlist r.holds r.path t.next.signal) (sym b.0.at) (subst (IsUnknown f n holds (path_of_stack t.front)) (sym t.signal) b.1)

  pub turned_end : (s s' new : Sim) (stack stack' : List Side) (done : List Node) → IsAtEnd f n holds s stack → s' ≡ backtracked s → (t : IsFlipped done stack stack')
      → new ≡ assigned s' t.next.signal t.next.bit → IsAtEnd f n holds new stack'
  turned_end s s' new stack stack' done w u t a =
      let b = before s s' t.front t.last stack w t.was u in
      let path : path_of_stack stack' ≡ (t.next.signal, t.next.bit) ∷ path_of_stack t.front = ap path_of_stack t.is ∙ stack_onto-append [] t.front t.next in
      record {
        at = a ∙ (ap (λ (r : Sim). assigned r t.next.signal t.next.bit) b.0.at ∙ ap (sim n f holds) (sym path));
        free = subst (AreFree f n holds []) (sym t.is) (free-append [] t.front t.next b.0.free (subst (IsUnknown f n holds (path_of_stack t.front)) (sym t.signal) b.1));
      }

-- the last side after a turn
pub last_is : {done : List Node} {stack stack' : List Side} (t : IsFlipped done stack stack') (r : Side) (m : ℕ) → m ≡ length stack' → r ≡ get_or stack' (m - 1) r → r ≡ t.next
last_is {done} {stack} {stack'} t r m l is =
    let a = ap length t.is in
    let b = length-append t.front (t.next ∷ []) in
    let place : m - 1 ≡ length t.front + 0 = omega arith in
    is ∙ (ap (λ (ss : List Side). get_or ss (m - 1) r) t.is ∙ (ap (λ j. get_or (t.front ++ t.next ∷ []) j r) place ∙ get_or-append-add t.front (t.next ∷ []) 0 r))

pub path_length : (f : Fault) (n : Netlist) (holds : Holds) (s : Sim) (stack : List Side) → s ≡ sim n f holds (path_of_stack stack) → length s.path ≡ length stack
path_length f n holds s stack e = ap (λ (r : Sim). length r.path) e ∙ (let h = length-stack_onto [] stack in omega arith)
