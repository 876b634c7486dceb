-- The steps of the player's loops.
use Rattle.std.proofs.Common.{◌≡◌, ℕ, suc, zero, ◌+◌, ◌<◌, ◌≤◌, Bool, true, false, cond, List, [], ◌∷◌, ◌++◌, map, length, get_or, take, drop, Option, Some, None, sym, ◌∙◌, ap, subst, inl, inr, arith, length-append, length-take, eqb}
use Rattle.std.specs.Bool.{Decides}
use Rattle.std.specs.List.{All, Contains}
use Rattle.std.proofs.lemmas.Bool.{both_ways, cases_eq, eq-eqb, ne_eqb}
use Rattle.std.proofs.lemmas.List.{length-map, get_or-map, take_all, take_more, take-append-drop, append-nil}
use Rattle.std.proofs.lemmas.List.Elements.{All-contains}
use Rattle.std.proofs.lemmas.Grind.{flat_map-append}
use Rattle.std.proofs.lemmas.Map.Made.{IsDistinct-from_AllPairs}
use Rattle.std.proofs.lemmas.Map.Steps.{length-le_from_distinct_below}
use Rattle.statement.specs.declared.kinds.Tri.{Tri}
use Rattle.statement.specs.declared.lines.Fault.{Fault}
use Rattle.statement.specs.Netlists.{Netlist, cells, signals}
use Rattle.netlist.specs.Conditions.{IsSound}
use Rattle.statement.specs.Values.{Settles, outs, next, known}
use Rattle.netlist.proofs.Lists.{all_flat_map, any_true}
use Rattle.netlist.proofs.Placed.{signal_below}
use Rattle.tri.specs.Settled.{tri_table, tris}
use Rattle.statement.specs.Runs.{numbers_from, Cycle, Ticks}
use Rattle.scan_insert.proofs.Numbers.{length-numbers_from}
use Rattle.scan_play.specs.declared.cycles.Burst.{Burst}
use Rattle.scan_play.specs.declared.played.Played.{Played}
use Rattle.scan_play.specs.Cycles.{IsCycleOf}
use Rattle.scan_play.specs.Bursts.{cycle_of, cycles_of, all_cycles}
use Rattle.scan_play.specs.Judging.{Judging, judged_in}
use Rattle.scan_play.specs.inner.Steps.{IsStep, PlaysOn}
use Rattle.scan_play.proofs.Instances.{same_tri, decides_tri}
use Rattle.scan_play.proofs.RunLaws.{one_tick, next_length}
use Rattle.scan_play.proofs.PlayLemmas.{plays_step, plays_then, plays_found}

-- ---- few outputs

eqb_equal : (a b : ℕ) → eqb a b ≡ true → a ≡ b
eqb_equal a b e = elim (cases_eq a b) [ inl h ↦ h | inr h ↦ absurd (both_ways (eqb a b) (ne_eqb a b h) e) ]

decides_eqb : (a b : ℕ) → Decides (eqb a b) (a ≡ b)
decides_eqb a b = (eqb_equal a b, eq-eqb a b)

pub few_outputs : (n : Netlist) → IsSound n → length n.outputs ≤ 8000000
few_outputs n sound =
    length-le_from_distinct_below n.outputs 8000000 (IsDistinct-from_AllPairs decides_eqb n.outputs sound.formed.once)
    (λ q any.
    let m = any_true (eqb q) n.outputs any in
    let same : q ≡ m.0 = eqb_equal q m.0 m.2 in
    let below = signal_below n sound.formed.numbered m.0 (All-contains (Contains (signals n)) n.outputs m.0 sound.closed.outputs m.1) in
    let small = sound.sized.small in
    omega arith)

-- ---- a cycle

cond_length : (b : Bool) (xs ys : List Tri) (k : ℕ) → length xs ≡ k → length ys ≡ k → length (cond b xs ys) ≡ k
cond_length true xs ys k e h = e
cond_length false xs ys k e h = h

pub step_from : (J : Judging) (f : Option Fault) (n : Netlist) (cycle : Cycle) (number : ℕ) (state after drive strobe row : List Tri) (values : ℕ → Tri) (found : Option Played) → IsSound n
    → drive ≡ map known cycle.drive → strobe ≡ cycle.strobe → length state ≡ length (cells n) → Settles (tris f) n drive state values
    → row ≡ outs (tris f) n values → after ≡ cond cycle.pulse (next (tris f) n values) state → found ≡ judged_in J number 0 strobe row
    → IsStep J f n state after cycle number found
step_from J f n cycle number state after drive strobe row values found sound d s size settles shows keeps is = record {
  size = ap length keeps ∙ cond_length cycle.pulse (next (tris f) n values) state (length (cells n)) (next_length (tris f) n values sound.closed) size;
  outcome = λ shown then tick.
      let own : Ticks tri_table f n state cycle row after =
      record { values = values; settles = subst (λ (x : List Tri). Settles (tris f) n x state values) d settles; shows = shows; keeps = keeps } in
      let same = one_tick same_tri decides_tri tri_table f n sound.closed sound.acyclic state cycle shown row then after tick own in
      (ap (judged_in J number 0 cycle.strobe) same.0 ∙ (ap (λ (x : List Tri). judged_in J number 0 x row) (sym s) ∙ sym is), same.1);
}

-- ---- a burst

get_or-numbers : (first count k d : ℕ) → k < count → get_or (numbers_from first count) k d ≡ first + k
get_or-numbers first zero k d l = absurd (omega (arith, l))
get_or-numbers first (suc count) zero d l = omega arith
get_or-numbers first (suc count) (suc k) d l = omega (arith, get_or-numbers (first + 1) count k d (omega (arith, l)))

pub length-cycles_of : (b : Burst) → length (cycles_of b) ≡ b.count
length-cycles_of b = length-map (numbers_from 0 b.count) (cycle_of b) ∙ length-numbers_from 0 b.count

cycle_at : (b : Burst) (t : ℕ) (d : Cycle) → t < b.count → get_or (cycles_of b) t d ≡ cycle_of b t
cycle_at b t d l =
    let size = length-numbers_from 0 b.count in
    get_or-map (cycle_of b) (numbers_from 0 b.count) t 0 d (omega arith) ∙ ap (cycle_of b) (get_or-numbers 0 b.count t 0 l ∙ omega arith)

pub cycle_fits : (n : Netlist) (b : Burst) (t : ℕ) → All (IsCycleOf n) (cycles_of b) → t < b.count → IsCycleOf n (cycle_of b t)
cycle_fits n b t h l =
    let size = length-cycles_of b in
    let d : Cycle = cycle_of b t in
    subst (IsCycleOf n) (cycle_at b t d l) (h t d (omega arith))

taken : (b : Burst) (t : ℕ) → t < b.count → take (t + 1) (cycles_of b) ≡ take t (cycles_of b) ++ cycle_of b t ∷ []
taken b t l =
    let size = length-cycles_of b in
    let d : Cycle = cycle_of b t in
    take_more (cycles_of b) t d (omega arith) ∙ ap (λ c. take t (cycles_of b) ++ c ∷ []) (cycle_at b t d l)

module _ (J : Judging) (f : Option Fault) (n : Netlist) where
  one_more : (b : Burst) (t first : ℕ) (start state after : List Tri) (found : Option Played) → t < b.count → PlaysOn J f n (take t (cycles_of b)) first start state None
      → IsStep J f n state after (cycle_of b t) (first + t) found → PlaysOn J f n (take (t + 1) (cycles_of b)) first start after found
  one_more b t first start state after found l h step =
      let size = length-cycles_of b in
      let many : first + t ≡ first + length (take t (cycles_of b)) = omega (arith, length-take t (cycles_of b)) in
      let one = plays_step J f n (cycle_of b t) (first + length (take t (cycles_of b))) state after found (subst (λ k. IsStep J f n state after (cycle_of b t) k found) many step) in
      subst (λ cs. PlaysOn J f n cs first start after found) (sym (taken b t l))
      (plays_then J f n (take t (cycles_of b)) (cycle_of b t ∷ []) first start state after found h one)

  pub burst_more : (b : Burst) (t first : ℕ) (start state after : List Tri) (found : Option Played) → t < b.count → PlaysOn J f n (take t (cycles_of b)) first start state None
      → IsStep J f n state after (cycle_of b t) (first + t) found → found ≡ None → PlaysOn J f n (take (t + 1) (cycles_of b)) first start after None
  burst_more b t first start state after found l h step is =
      subst (λ x. PlaysOn J f n (take (t + 1) (cycles_of b)) first start after x) is (one_more b t first start state after found l h step)

  pub burst_found : (b : Burst) (t first : ℕ) (start state after : List Tri) (found : Option Played) (p : Played) → t < b.count → PlaysOn J f n (take t (cycles_of b)) first start state None
      → IsStep J f n state after (cycle_of b t) (first + t) found → found ≡ Some p → PlaysOn J f n (cycles_of b) first start after (Some p)
  burst_found b t first start state after found p l h step is =
      let some = subst (λ x. PlaysOn J f n (take (t + 1) (cycles_of b)) first start after x) is (one_more b t first start state after found l h step) in
      subst (λ cs. PlaysOn J f n cs first start after (Some p)) (take-append-drop (t + 1) (cycles_of b))
      (plays_found J f n (take (t + 1) (cycles_of b)) (drop (t + 1) (cycles_of b)) first start after p some)

  pub burst_done : (b : Burst) (t first : ℕ) (start state : List Tri) → b.count ≤ t → PlaysOn J f n (take t (cycles_of b)) first start state None → PlaysOn J f n (cycles_of b) first start state None
  burst_done b t first start state l h =
      let size = length-cycles_of b in
      subst (λ cs. PlaysOn J f n cs first start state None) (take_all t (cycles_of b) (omega arith)) h

  -- ---- bursts

  bursts_taken : (bursts : List Burst) (i : ℕ) (b : Burst) → i < length bursts → b ≡ get_or bursts i b → all_cycles (take (i + 1) bursts) ≡ all_cycles (take i bursts) ++ cycles_of b
  bursts_taken bursts i b l is =
      ap all_cycles (take_more bursts i b l ∙ ap (λ x. take i bursts ++ x ∷ []) (sym is))
      ∙ (flat_map-append cycles_of (take i bursts) (b ∷ []) ∙ ap (λ x. all_cycles (take i bursts) ++ x) (append-nil (cycles_of b)))

  pub number_below : (bursts : List Burst) (i first : ℕ) (b : Burst) → i < length bursts → b ≡ get_or bursts i b → first ≡ length (all_cycles (take i bursts))
      → first + b.count ≤ length (all_cycles bursts)
  number_below bursts i first b l is number =
      let whole : length (all_cycles bursts) ≡ length (all_cycles (take (i + 1) bursts)) + length (all_cycles (drop (i + 1) bursts)) =
      ap (λ x. length (all_cycles x)) (sym (take-append-drop (i + 1) bursts))
      ∙ (ap length (flat_map-append cycles_of (take (i + 1) bursts) (drop (i + 1) bursts)) ∙ length-append (all_cycles (take (i + 1) bursts)) (all_cycles (drop (i + 1) bursts))) in
      omega (arith, whole, ap length (bursts_taken bursts i b l is), length-append (all_cycles (take i bursts)) (cycles_of b), length-cycles_of b, number)

  pub number_more : (bursts : List Burst) (i first : ℕ) (b : Burst) → i < length bursts → b ≡ get_or bursts i b → first ≡ length (all_cycles (take i bursts))
      → first + b.count ≡ length (all_cycles (take (i + 1) bursts))
  number_more bursts i first b l is number =
      omega (arith, ap length (bursts_taken bursts i b l is), length-append (all_cycles (take i bursts)) (cycles_of b), length-cycles_of b, number)

  pub burst_fits : (bursts : List Burst) (i : ℕ) (b : Burst) → All (IsCycleOf n) (all_cycles bursts) → i < length bursts → b ≡ get_or bursts i b → All (IsCycleOf n) (cycles_of b)
  burst_fits bursts i b h l is = subst (λ x. All (IsCycleOf n) (cycles_of x)) (sym is) (all_flat_map (IsCycleOf n) cycles_of bursts h i b l)

  pub bursts_more : (bursts : List Burst) (i first : ℕ) (b : Burst) (start state after : List Tri) (found : Option Played) → i < length bursts → b ≡ get_or bursts i b
      → first ≡ length (all_cycles (take i bursts)) → PlaysOn J f n (all_cycles (take i bursts)) 0 start state None → PlaysOn J f n (cycles_of b) first state after found
      → PlaysOn J f n (all_cycles (take (i + 1) bursts)) 0 start after found
  bursts_more bursts i first b start state after found l is number h one =
      let at : first ≡ 0 + length (all_cycles (take i bursts)) = omega (arith, number) in
      subst (λ cs. PlaysOn J f n cs 0 start after found) (sym (bursts_taken bursts i b l is))
      (plays_then J f n (all_cycles (take i bursts)) (cycles_of b) 0 start state after found h (subst (λ k. PlaysOn J f n (cycles_of b) k state after found) at one))

  pub bursts_none : (bursts : List Burst) (i first : ℕ) (b : Burst) (start state after : List Tri) (found : Option Played) → i < length bursts → b ≡ get_or bursts i b
      → first ≡ length (all_cycles (take i bursts)) → PlaysOn J f n (all_cycles (take i bursts)) 0 start state None → PlaysOn J f n (cycles_of b) first state after found → found ≡ None
      → PlaysOn J f n (all_cycles (take (i + 1) bursts)) 0 start after None
  bursts_none bursts i first b start state after found l is number h one none =
      subst (λ x. PlaysOn J f n (all_cycles (take (i + 1) bursts)) 0 start after x) none (bursts_more bursts i first b start state after found l is number h one)

  pub bursts_found : (bursts : List Burst) (i first : ℕ) (b : Burst) (start state after : List Tri) (found : Option Played) (p : Played) → i < length bursts → b ≡ get_or bursts i b
      → first ≡ length (all_cycles (take i bursts)) → PlaysOn J f n (all_cycles (take i bursts)) 0 start state None → PlaysOn J f n (cycles_of b) first state after found → found ≡ Some p
      → PlaysOn J f n (all_cycles bursts) 0 start after (Some p)
  bursts_found bursts i first b start state after found p l is number h one some =
      let some_found = subst (λ x. PlaysOn J f n (all_cycles (take (i + 1) bursts)) 0 start after x) some (bursts_more bursts i first b start state after found l is number h one) in
      let whole : all_cycles (take (i + 1) bursts) ++ all_cycles (drop (i + 1) bursts) ≡ all_cycles bursts =
      sym (flat_map-append cycles_of (take (i + 1) bursts) (drop (i + 1) bursts)) ∙ ap all_cycles (take-append-drop (i + 1) bursts) in
      subst (λ cs. PlaysOn J f n cs 0 start after (Some p)) whole
      (plays_found J f n (all_cycles (take (i + 1) bursts)) (all_cycles (drop (i + 1) bursts)) 0 start after p some_found)

  pub bursts_done : (bursts : List Burst) (i : ℕ) (start state : List Tri) → length bursts ≤ i → PlaysOn J f n (all_cycles (take i bursts)) 0 start state None
      → PlaysOn J f n (all_cycles bursts) 0 start state None
  bursts_done bursts i start state l h = subst (λ x. PlaysOn J f n (all_cycles x) 0 start state None) (take_all i bursts l) h
