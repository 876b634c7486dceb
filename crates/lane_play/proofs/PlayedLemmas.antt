-- Machines played side by side are as far as their own players.
use Rattle.std.proofs.Common.{◌≡◌, ℕ, suc, zero, ◌+◌, ◌<◌, ◌≤◌, Bool, true, false, cond, List, [], ◌∷◌, ◌++◌, map, length, get_or, take, drop, replicate, Option, Some, None, refl, sym, ◌∙◌, ap, subst, arith, length-append, length-take}
use Rattle.std.specs.List.{slice_get}
use Rattle.std.proofs.lemmas.Bool.{both_ways}
use Rattle.std.proofs.lemmas.List.{length-map, get_or-map, take_all, take_more, take-append-drop, append_assoc, append-nil}
use Rattle.std.proofs.lemmas.Grind.{flat_map-append}
use Rattle.statement.specs.declared.kinds.Tri.{Tri}
use Rattle.statement.specs.declared.kinds.Tri.TheVariants.{X}
use Rattle.statement.specs.declared.lines.Fault.{Fault}
use Rattle.netlist.specs.Conditions.{IsSound}
use Rattle.statement.specs.Netlists.{Netlist, cells}
use Rattle.statement.specs.Values.{Settles, next, known}
use Rattle.netlist.specs.Settled.{at}
use Rattle.statement.specs.Runs.{numbers_from, Cycle}
use Rattle.scan_insert.proofs.Numbers.{length-numbers_from, get_or-numbers_from}
use Rattle.scan_play.specs.declared.cycles.Burst.{Burst}
use Rattle.scan_play.specs.declared.played.Played.{Played}
use Rattle.scan_play.specs.Bursts.{all_cycles, cycle_of, cycles_of}
use Rattle.scan_play.specs.Judging.{IsOpen, Judging, judged_in, played_or_else}
use Rattle.scan_play.specs.inner.Steps.{IsStep, PlaysOn}
use Rattle.scan_play.proofs.PlayLemmas.{plays_found, plays_step, plays_then}
use Rattle.scan_play.proofs.PlaySteps.{length-cycles_of, step_from}
use Rattle.scan_play.proofs.RunLaws.{next_length}
use Rattle.lane_play.specs.declared.bits.Bits.{Bits}
use Rattle.lane_play.specs.declared.packed.Lanes.{Lanes}
use Rattle.lane_play.specs.inner.Bits.{bit_in, no_bits}
use Rattle.lane_play.specs.inner.Lanes.{always, lane, lanes, lanes_rule, unknown}
use Rattle.lane_play.specs.inner.Verdicts.{AreJudgedIn, AreLeft, found_at, is_open}
use Rattle.lane_play.specs.inner.Steps.{AreEnded, ArePlayed, AreSteps, IsCyclePlayed, Keeping, KeepsBehind, KeepsOn, StaysKept}
use Rattle.lane_play.proofs.BitLemmas.{bit_in_none}
use Rattle.lane_play.proofs.LaneBits.{lane_always, lane_next, lane_outs, lane_settles, lane_unknown}

-- ---- one machine of lists

pub lanes_always : (k : ℕ) → k < 128 → (bits : List Bool) → lanes k (map always bits) ≡ map known bits
lanes_always k low [] = refl
lanes_always k low (b ∷ bs) = ap (λ v. v ∷ lanes k (map always bs)) (lane_always k low b) ∙ ap (λ vs. known b ∷ vs) (lanes_always k low bs)

pub lanes_unknown : (k : ℕ) → k < 128 → (count : ℕ) → lanes k (replicate count unknown) ≡ replicate count X
lanes_unknown k low zero = refl
lanes_unknown k low (suc count) = ap (λ v. v ∷ lanes k (replicate count unknown)) (lane_unknown k low) ∙ ap (λ vs. X ∷ vs) (lanes_unknown k low count)

pub lanes_chosen : (k : ℕ) (b : Bool) (us vs : List Lanes) → lanes k (cond b us vs) ≡ cond b (lanes k us) (lanes k vs)
lanes_chosen k true us vs = refl
lanes_chosen k false us vs = refl

chosen_length : (b : Bool) (us vs : List Lanes) (m : ℕ) → length us ≡ m → length vs ≡ m → length (cond b us vs) ≡ m
chosen_length true us vs m e h = e
chosen_length false us vs m e h = h

pub size_kept : (faults : List Fault) (n : Netlist) (pulse : Bool) (state after : List Lanes) (a : ℕ → Lanes) → IsSound n → length state ≡ length (cells n)
    → after ≡ cond pulse (next (lanes_rule faults) n a) state → length after ≡ length (cells n)
size_kept faults n pulse state after a sound size is =
    ap length is ∙ chosen_length pulse (next (lanes_rule faults) n a) state (length (cells n)) (next_length (lanes_rule faults) n a sound.closed) size

-- ---- a cycle

pub steps_from : (faults : List Fault) (n : Netlist) (cycle : Cycle) (number : ℕ) (state after drive values row : List Lanes) → length faults ≤ 128 → IsSound n
    → drive ≡ map always cycle.drive → length state ≡ length (cells n)
    → ((d : Lanes) → Settles (lanes_rule faults) n drive state (at values d)) → AreEnded faults n cycle.pulse values state after row → AreSteps faults n state after cycle number row
steps_from faults n cycle number state after drive values row machines sound d size settles ended = λ k J low opens.
    let a : ℕ → Lanes = at values unknown in
    step_from J (slice_get faults k) n cycle number (lanes k state) (lanes k after) (lanes k drive) cycle.strobe (lanes k row) (λ x. lane k (a x)) (judged_in J number 0 cycle.strobe (lanes k row)) sound
    (ap (lanes k) d ∙ lanes_always k low cycle.drive) refl (length-map state (lane k) ∙ size)
    (lane_settles k low faults machines n drive state a (settles unknown))
    (ap (lanes k) ended.shows ∙ sym (lane_outs k low faults machines n a))
    (ap (lanes k) ended.ticked ∙ (lanes_chosen k cycle.pulse (next (lanes_rule faults) n a) state ∙ ap (λ vs. cond cycle.pulse vs (lanes k state)) (sym (lane_next k low faults machines n a))))
    refl

-- ---- verdicts

module _ (J : Judging) (faults : List Fault) (n : Netlist) where
  some_state : (f : Option Fault) (cs : List Cycle) (start state after : List Tri) (p : Played) → length after ≡ length (cells n) → PlaysOn J f n cs 0 start state (Some p) → PlaysOn J f n cs 0 start after (Some p)
  some_state f cs start state after p size h = record { size = size; outcome = h.outcome }

  one_more : (f : Option Fault) (cs : List Cycle) (cycle : Cycle) (start state after : List Tri) (old new said : Option Played) → PlaysOn J f n cs 0 start state old
      → IsStep J f n state after cycle (0 + length cs) said → new ≡ played_or_else old said → PlaysOn J f n (cs ++ cycle ∷ []) 0 start after new
  one_more f cs cycle start state after None new said h step e =
      subst (PlaysOn J f n (cs ++ cycle ∷ []) 0 start after) (sym e)
      (plays_then J f n cs (cycle ∷ []) 0 start state after said h (plays_step J f n cycle (0 + length cs) state after said step))
  one_more f cs cycle start state after (Some p) new said h step e =
      subst (PlaysOn J f n (cs ++ cycle ∷ []) 0 start after) (sym e)
      (some_state f (cs ++ cycle ∷ []) start state after p step.size (plays_found J f n cs (cycle ∷ []) 0 start state p h))

  closed_stays : (f : Option Fault) (cs ds : List Cycle) (start state : List Tri) (found : Option Played) → is_open found ≡ false → PlaysOn J f n cs 0 start state found → PlaysOn J f n (cs ++ ds) 0 start state found
  closed_stays f cs ds start state None e h = absurd (both_ways true e refl)
  closed_stays f cs ds start state (Some p) e h = plays_found J f n cs ds 0 start state p h

  -- once something is said of each machine, it stays, whatever comes behind
  pub played_whole : (cs ds : List Cycle) (state : List Lanes) (found : List (Option Played)) (left : Bits) → length found ≤ 128 → AreLeft found (length found) left → left ≡ no_bits
      → ArePlayed J faults n cs state found → ArePlayed J faults n (cs ++ ds) state found
  played_whole cs ds state found left few h none played = record {
    size = played.size;
    each = λ k l.
        let inside : k < length found = (let e = played.size in omega (arith, l)) in
        let low : k < 128 = omega (arith, inside, few) in
        closed_stays (slice_get faults k) cs ds (replicate (length (cells n)) X) (lanes k state) (found_at found k)
        (sym (h k inside) ∙ (ap (bit_in k) none ∙ bit_in_none k)) (played.each k l);
  }

pub verdicts_keep : (J : Judging) → IsOpen J → (number : ℕ) (strobes : List Tri) (row : List Lanes) (old new : List (Option Played)) → length new ≤ 128 → AreJudgedIn J number strobes row old new
    → KeepsOn (λ faults n cycles state. ArePlayed J faults n cycles state old) (λ faults n cycles state. ArePlayed J faults n cycles state new) number strobes row
verdicts_keep J opens number strobes row old new few judged = λ faults n before state after cycle at same steps h. record {
  size = judged.size ∙ h.size;
  each = λ k l.
      let inside : k < length old = (let e = h.size in omega (arith, l)) in
      let low : k < 128 = (let e = judged.size in omega (arith, inside, few)) in
      let said = judged_in J number 0 cycle.strobe (lanes k row) in
      let number_is : number ≡ 0 + length before = omega (arith, at) in
      one_more J faults n (slice_get faults k) before cycle (replicate (length (cells n)) X) (lanes k state) (lanes k after) (found_at old k) (found_at new k) said (h.each k l)
      (subst (λ m. IsStep J (slice_get faults k) n (lanes k state) (lanes k after) cycle m said) number_is (steps k J low opens))
      (judged.each k inside ∙ ap (λ ss. played_or_else (found_at old k) (judged_in J number 0 ss (lanes k row))) (sym same));
}

pub verdicts_stay : (J : Judging) (found : List (Option Played)) (left : Bits) → length found ≤ 128 → AreLeft found (length found) left → left ≡ no_bits → StaysKept (λ faults n cycles state. ArePlayed J faults n cycles state found)
verdicts_stay J found left few h none = λ faults n before behind state played. played_whole J faults n before behind state found left few h none played

-- ---- what holds of cycles

cycle_here : (b : Burst) (t : ℕ) (d : Cycle) → t < b.count → get_or (cycles_of b) t d ≡ cycle_of b t
cycle_here b t d l =
    let size = length-numbers_from 0 b.count in
    get_or-map (cycle_of b) (numbers_from 0 b.count) t 0 d (omega arith) ∙ ap (cycle_of b) (get_or-numbers_from 0 b.count t 0 l ∙ omega arith)

taken : (before : List Cycle) (b : Burst) (t : ℕ) → t < b.count → (before ++ take t (cycles_of b)) ++ cycle_of b t ∷ [] ≡ before ++ take (t + 1) (cycles_of b)
taken before b t l =
    let size = length-cycles_of b in
    let d : Cycle = cycle_of b t in
    append_assoc before (take t (cycles_of b)) (cycle_of b t ∷ [])
    ∙ ap (λ cs. before ++ cs) (ap (λ c. take t (cycles_of b) ++ c ∷ []) (sym (cycle_here b t d l)) ∙ sym (take_more (cycles_of b) t d (omega arith)))

module _ (P : List Cycle → Type 0) where
  pub burst_none : (before : List Cycle) (b : Burst) → P before → P (before ++ take 0 (cycles_of b))
  burst_none before b h = subst P (sym (append-nil before)) h

  pub burst_more : (before : List Cycle) (b : Burst) (t : ℕ) → t < b.count → P ((before ++ take t (cycles_of b)) ++ cycle_of b t ∷ []) → P (before ++ take (t + 1) (cycles_of b))
  burst_more before b t l h = subst P (taken before b t l) h

  pub burst_done : (before : List Cycle) (b : Burst) (t : ℕ) → b.count ≤ t → P (before ++ take t (cycles_of b)) → P (before ++ cycles_of b)
  burst_done before b t l h =
      let size = length-cycles_of b in
      subst (λ cs. P (before ++ cs)) (take_all t (cycles_of b) (omega arith)) h

  pub burst_stopped : (before : List Cycle) (b : Burst) (t : ℕ) → P ((before ++ take t (cycles_of b)) ++ drop t (cycles_of b)) → P (before ++ cycles_of b)
  burst_stopped before b t h = subst P (append_assoc before (take t (cycles_of b)) (drop t (cycles_of b)) ∙ ap (λ cs. before ++ cs) (take-append-drop t (cycles_of b))) h

  pub bursts_more : (bursts : List Burst) (i : ℕ) (b : Burst) → i < length bursts → b ≡ get_or bursts i b → P (all_cycles (take i bursts) ++ cycles_of b) → P (all_cycles (take (i + 1) bursts))
  bursts_more bursts i b l is h =
      subst P
      (sym (ap all_cycles (take_more bursts i b l ∙ ap (λ x. take i bursts ++ x ∷ []) (sym is))
      ∙ (flat_map-append cycles_of (take i bursts) (b ∷ []) ∙ ap (λ x. all_cycles (take i bursts) ++ x) (append-nil (cycles_of b))))) h

  pub bursts_done : (bursts : List Burst) (i : ℕ) → length bursts ≤ i → P (all_cycles (take i bursts)) → P (all_cycles bursts)
  bursts_done bursts i l h = subst (λ x. P (all_cycles x)) (take_all i bursts l) h

  pub bursts_stopped : (bursts : List Burst) (i : ℕ) → P (all_cycles (take i bursts) ++ all_cycles (drop i bursts)) → P (all_cycles bursts)
  bursts_stopped bursts i h = subst P (sym (flat_map-append cycles_of (take i bursts) (drop i bursts)) ∙ ap all_cycles (take-append-drop i bursts)) h

-- ---- bursts one behind the other

pub keeps_none : (kept : Keeping) (faults : List Fault) (n : Netlist) (first : ℕ) (state : List Lanes) → KeepsBehind kept kept faults n first [] state state
keeps_none kept faults n first state before size h = subst (λ cs. kept faults n cs state) (sym (append-nil before)) h

pub keeps_then : (old mid new : Keeping) (faults : List Fault) (n : Netlist) (first next : ℕ) (cs ds : List Cycle) (state between after : List Lanes) → next ≡ first + length cs
    → KeepsBehind old mid faults n first cs state between → KeepsBehind mid new faults n next ds between after → KeepsBehind old new faults n first (cs ++ ds) state after
keeps_then old mid new faults n first next cs ds state between after at one two before size h =
    let long = length-append before cs in
    subst (λ xs. new faults n xs after) (append_assoc before cs ds) (two (before ++ cs) (omega (arith, size, at, long)) (one before size h))

pub keeps_whole : (old new : Keeping) (faults : List Fault) (n : Netlist) (first : ℕ) (cs ds : List Cycle) (state after : List Lanes) → StaysKept new
    → KeepsBehind old new faults n first cs state after → KeepsBehind old new faults n first (cs ++ ds) state after
keeps_whole old new faults n first cs ds state after stays one before size h =
    subst (λ xs. new faults n xs after) (append_assoc before cs ds) (stays faults n (before ++ cs) ds after (one before size h))

-- how many cycles there are up to a burst's end
pub burst_next : (bursts : List Burst) (i : ℕ) (b : Burst) → i < length bursts → b ≡ get_or bursts i b → length (all_cycles (take i bursts)) + b.count ≡ length (all_cycles (take (i + 1) bursts))
burst_next bursts i b l is =
    bursts_more (λ cs. length (all_cycles (take i bursts)) + b.count ≡ length cs) bursts i b l is
    (sym (length-append (all_cycles (take i bursts)) (cycles_of b) ∙ ap (λ k. length (all_cycles (take i bursts)) + k) (length-cycles_of b)))

pub burst_within : (bursts : List Burst) (i : ℕ) (b : Burst) → i < length bursts → b ≡ get_or bursts i b → length (all_cycles (take i bursts)) + b.count ≤ length (all_cycles bursts)
burst_within bursts i b l is =
    bursts_stopped (λ cs. length (all_cycles (take i bursts)) + b.count ≤ length cs) bursts (i + 1)
    (let e = burst_next bursts i b l is in let long = length-append (all_cycles (take (i + 1) bursts)) (all_cycles (drop (i + 1) bursts)) in omega (arith, e, long))

-- where so many cycles were played, the number of the next is how many
pub number_here : (before : List Cycle) (b : Burst) (t first : ℕ) → t < b.count → length before ≡ first → length (before ++ take t (cycles_of b)) ≡ first + t
number_here before b t first l size =
    let whole = length-cycles_of b in
    let one = length-append before (take t (cycles_of b)) in
    let two = length-take t (cycles_of b) in
    omega arith

-- ---- the cycles of a burst, one behind the other

module _ (old new : Keeping) (faults : List Fault) (n : Netlist) (first : ℕ) (b : Burst) (t : ℕ) (state after : List Lanes) where
  pub keeps_more : (mid : Keeping) (between : List Lanes) → t < b.count → KeepsBehind old mid faults n first (take t (cycles_of b)) state between → IsCyclePlayed mid new faults n (first + t) (cycle_of b t) between after
      → KeepsBehind old new faults n first (take (t + 1) (cycles_of b)) state after
  keeps_more mid between l kept played before size h =
      burst_more (λ cs. new faults n cs after) before b t l
      (played.heard faults n (before ++ take t (cycles_of b)) between after (cycle_of b t) (number_here before b t first l size) refl played.steps (kept before size h))

  pub keeps_all : b.count ≤ t → KeepsBehind old new faults n first (take t (cycles_of b)) state after → KeepsBehind old new faults n first (cycles_of b) state after
  keeps_all l kept before size h = burst_done (λ cs. new faults n cs after) before b t l (kept before size h)

  pub keeps_rest : StaysKept new → KeepsBehind old new faults n first (take t (cycles_of b)) state after → KeepsBehind old new faults n first (cycles_of b) state after
  keeps_rest stays kept before size h =
      burst_stopped (λ cs. new faults n cs after) before b t (stays faults n (before ++ take t (cycles_of b)) (drop t (cycles_of b)) after (kept before size h))
