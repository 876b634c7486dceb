-- Machines that are played in legs.
use Rattle.std.proofs.Common.{◌≡◌, ◌≢◌, ℕ, suc, zero, ◌+◌, ◌-◌, ◌<◌, ◌≤◌, ◌⊎◌, Bool, true, false, List, [], ◌∷◌, ◌++◌, map, length, get_or, take, drop, replicate, Option, Some, None, refl, sym, ◌∙◌, ap, subst, inl, inr, arith, length-append, take-add}
use Rattle.std.specs.List.{All, slice_get}
use Rattle.std.specs.Prelude.{option_map, ◌==◌}
use Rattle.std.proofs.lemmas.Bool.{both_ways, cases_eq, cases_lt}
use Rattle.std.proofs.lemmas.Bool.Decides.{nat_tests}
use Rattle.std.proofs.lemmas.Grind.{flat_map-append}
use Rattle.std.proofs.lemmas.List.{length-map, length-replicate, take-append-drop}
use Rattle.std.proofs.lemmas.List.Elements.{All-from_get_or}
use Rattle.std.proofs.lemmas.Option.{get_or_from_slice_get, none-some, same_Some, slice_get-get_or, slice_get-map, slice_get_within}
use Rattle.statement.specs.declared.kinds.Tri.{Tri}
use Rattle.statement.specs.declared.kinds.Tri.TheVariants.{X}
use Rattle.statement.specs.declared.lines.Fault.{Fault}
use Rattle.netlist.specs.Conditions.{IsSound}
use Rattle.netlist.proofs.Lists.{all_left, all_right}
use Rattle.netlist.proofs.Settling.{zip_from}
use Rattle.statement.specs.Netlists.{Netlist, cells}
use Rattle.statement.specs.Runs.{Cycle}
use Rattle.scan_play.specs.declared.cycles.Burst.{Burst}
use Rattle.scan_play.specs.declared.played.Played.{Played}
use Rattle.scan_play.specs.Bursts.{all_cycles, cycles_of}
use Rattle.scan_play.specs.Cycles.{IsCycleOf}
use Rattle.scan_play.specs.Judging.{IsJudged, Judging}
use Rattle.scan_play.specs.inner.Steps.{PlaysOn}
use Rattle.scan_play.proofs.PlayLemmas.{judged_as, plays_found, plays_nothing}
use Rattle.lane_play.specs.declared.packed.Lanes.{Lanes}
use Rattle.lane_play.specs.declared.packing.Machine.{Machine}
use Rattle.lane_play.specs.Judged.{AreJudged}
use Rattle.lane_play.specs.inner.Apart.{AreFiled, AreInLeg, AreLines, AreOpen, ArePacked, IsTeam, PlaysAt}
use Rattle.lane_play.specs.inner.Lanes.{lanes}
use Rattle.lane_play.specs.inner.Steps.{ArePlayed}
use Rattle.lane_play.specs.inner.Verdicts.{found_at, is_open}
use Rattle.lane_play.proofs.PackLemmas.{all_at, line_at, lines_length}

-- ---- items of lists by their places

-- there is an item
some_at : {Y : Type 0} (xs : List Y) (k : ℕ) → k < length xs → (x : Y) × (slice_get xs k ≡ Some x)
some_at [] k l = absurd (omega arith)
some_at (x ∷ xs) zero l = (x, refl)
some_at (x ∷ xs) (suc k) l = some_at xs k (omega arith)

pushed_at : {Y : Type 0} (xs : List Y) (y : Y) (k : ℕ) (x : Y) → slice_get (xs ++ y ∷ []) k ≡ Some x → (slice_get xs k ≡ Some x) ⊎ (x ≡ y)
pushed_at [] y zero x e = inr (sym (same_Some y x e))
pushed_at [] y (suc k) x e = absurd (none-some x e)
pushed_at (z ∷ zs) y zero x e = inl e
pushed_at (z ∷ zs) y (suc k) x e = pushed_at zs y k x e

kept_at : {Y : Type 0} (xs ys : List Y) (k : ℕ) (x : Y) → slice_get xs k ≡ Some x → slice_get (xs ++ ys) k ≡ Some x
kept_at [] ys k x e = absurd (none-some x e)
kept_at (z ∷ zs) ys zero x e = e
kept_at (z ∷ zs) ys (suc k) x e = kept_at zs ys k x e

last_at : {Y : Type 0} (xs : List Y) (y : Y) → slice_get (xs ++ y ∷ []) (length xs) ≡ Some y
last_at [] y = refl
last_at (z ∷ zs) y = last_at zs y

-- a first part of two
pub take_left : {Y : Type 0} (xs ys : List Y) (k : ℕ) → k ≡ length xs → take k (xs ++ ys) ≡ xs
take_left [] ys zero e = refl
take_left [] ys (suc k) e = absurd (omega (arith, e))
take_left (x ∷ xs) ys zero e = absurd (omega (arith, e))
take_left (x ∷ xs) ys (suc k) e = ap (λ zs. x ∷ zs) (take_left xs ys k (omega (arith, e)))

pub is_zero : (k : ℕ) (b : Bool) → b ≡ (k == 0) → b ≡ true → k ≡ 0
is_zero k b e t = let h : (k == 0) ≡ true = sym e ∙ t in grind (arith, nat_tests)

-- ---- which machines are open

pub open_none : (said : Option Played) → is_open said ≡ true → said ≡ None
open_none None e = refl
open_none (Some p) e = absurd (both_ways false refl e)

pub open_start : (machines : List Machine) (start : ℕ) → AreOpen machines start start []
open_start machines start = record {
  each = λ k place e. absurd (none-some place e);
  all = λ place m there low high none. absurd (omega (arith, low, high));
}

pub open_push : (machines : List Machine) (start at : ℕ) (m : Machine) (places : List ℕ) → slice_get machines at ≡ Some m → is_open m.said ≡ true → start ≤ at → AreOpen machines start at places
    → AreOpen machines start (at + 1) (places ++ at ∷ [])
open_push machines start at m places here opens low h = record {
  each = λ k place e. elim (pushed_at places at k place e) [
    | inl q ↦ let o = h.each k place q in (o.0, (let high = o.1 in omega (arith, high)), o.2)
    | inr same ↦
        (omega (arith, low, same), omega (arith, same), λ x there. ap (λ (y : Machine). y.said) (same_Some x m (sym there ∙ (ap (slice_get machines) same ∙ here))) ∙ open_none m.said opens)
  ];
  all = λ place x there from to none. elim (cases_eq place at) [
    | inl same ↦ (length places, last_at places at ∙ ap Some (sym same))
    | inr other ↦ let q = h.all place x there from (omega (arith, to, other)) none in (q.0, kept_at places (at ∷ []) q.0 place q.1)
  ];
}

pub open_skip : (machines : List Machine) (start at : ℕ) (m : Machine) (places : List ℕ) → slice_get machines at ≡ Some m → is_open m.said ≡ false → AreOpen machines start at places → AreOpen machines start (at + 1) places
open_skip machines start at m places here closed h = record {
  each = λ k place e. let o = h.each k place e in (o.0, (let high = o.1 in omega (arith, high)), o.2);
  all = λ place x there from to none. elim (cases_eq place at) [
    | inl same ↦ absurd (both_ways (is_open m.said) closed (ap is_open (ap (λ (y : Machine). y.said) (same_Some m x (sym here ∙ (ap (slice_get machines) (sym same) ∙ there))) ∙ none)))
    | inr other ↦ h.all place x there from (omega (arith, to, other)) none
  ];
}

-- they are among all machines
pub open_within : (machines : List Machine) (start end most : ℕ) (places : List ℕ) → end ≤ most → AreOpen machines start end places → All (λ place. place < most) places
open_within machines start end most places low h =
    All-from_get_or (λ place. place < most) places 0 (λ k l. let high = (h.each k (get_or places k 0) (slice_get-get_or places k 0 l)).1 in omega (arith, high, low))

all_from : {Y : Type 0} (P : Y → Type 0) (xs : List Y) → ((k : ℕ) (x : Y) → slice_get xs k ≡ Some x → P x) → All P xs
all_from P xs h = λ k d l. h k (get_or xs k d) (slice_get-get_or xs k d l)

none_found : (count k : ℕ) → found_at (replicate count None) k ≡ None
none_found zero k = refl
none_found (suc count) zero = refl
none_found (suc count) (suc k) = none_found count k

-- ---- what the team's places, lines and machines are lent as

pub team_lines : (faults : List Fault) (places places2 : List ℕ) (lines lines2 : List Fault) → places2 ≡ places → lines2 ≡ lines → AreLines faults places2 lines → AreLines faults places lines2
team_lines faults places places2 lines lines2 one two h = subst (AreLines faults places) (sym two) (subst (λ ps. AreLines faults ps lines) one h)

pub team_filed : (places : List ℕ) (state state2 : List Lanes) (said said2 : List (Option Played)) (old new : List Machine) → state2 ≡ state → said2 ≡ said
    → AreFiled places (length places) state2 said2 old new → AreFiled places (length places) state said old new
team_filed places state state2 said said2 old new one two h =
    subst (λ xs. AreFiled places (length places) state xs old new) two (subst (λ xs. AreFiled places (length places) xs said2 old new) one h)

-- ---- a leg

module _ (says : Judging) (faults : List Fault) (n : Netlist) where
  -- before the first cycle
  pub leg_none : (machines : List Machine) → length machines ≡ length faults → All (λ (m : Machine). (m.state.items ≡ replicate (length (cells n)) X) × (m.said ≡ None)) machines
      → AreInLeg says faults n [] [] 0 machines
  leg_none machines size blank = record {
    size = size;
    done = λ place m there low. absurd (omega (arith, low));
    others = λ place m there low.
        let b = all_at (λ (m : Machine). (m.state.items ≡ replicate (length (cells n)) X) × (m.said ≡ None)) machines place m blank there in
        let f = slice_get faults place in
        let start = replicate (length (cells n)) X in
        subst (PlaysOn says f n [] 0 start m.state.items) (sym b.1)
        (subst (λ s. PlaysOn says f n [] 0 start s None) (sym b.0) (plays_nothing says f n 0 start (length-replicate (length (cells n)) X)));
  }

  pub leg_sized : (played leg : List Burst) (start : ℕ) (machines : List Machine) → AreInLeg says faults n played leg start machines → All (λ (m : Machine). length m.state.items ≡ length (cells n)) machines
  leg_sized played leg start machines h =
      all_from (λ (m : Machine). length m.state.items ≡ length (cells n)) machines (λ place m there. elim (cases_lt place start) [
        | inl before ↦ (h.done place m there before).size
        | inr behind ↦ (h.others place m there behind).size
      ])

  pub leg_begins : (played leg : List Burst) (machines : List Machine) → AreInLeg says faults n played [] 0 machines → AreInLeg says faults n played leg 0 machines
  leg_begins played leg machines h = record { size = h.size; done = λ place m there low. absurd (omega (arith, low)); others = h.others }

  pub leg_ends : (played leg now : List Burst) (machines : List Machine) → all_cycles now ≡ all_cycles played ++ all_cycles leg → AreInLeg says faults n played leg (length machines) machines
      → AreInLeg says faults n now [] 0 machines
  leg_ends played leg now machines same h = record {
    size = h.size;
    done = λ place m there low. absurd (omega (arith, low));
    others = λ place m there low. subst (λ cs. PlaysAt says faults n cs place m) (sym same) (h.done place m there (slice_get_within machines place m there));
  }

  -- behind the last cycle
  pub leg_judged : (bursts : List Burst) (machines : List Machine) → IsSound n → All (IsCycleOf n) (all_cycles bursts) → AreInLeg says faults n bursts [] 0 machines
      → AreJudged says n faults (all_cycles bursts) (map (λ (m : Machine). m.said) machines)
  leg_judged bursts machines sound fits h =
      let cycles = all_cycles bursts in
      zip_from (λ f said. IsJudged says n (Some f) cycles said) faults (map (λ (m : Machine). m.said) machines) (sym (length-map machines (λ (m : Machine). m.said) ∙ h.size))
      (λ k f said l.
      let it = some_at machines k (let e = h.size in omega (arith, l)) in
      let own : get_or (map (λ (m : Machine). m.said) machines) k said ≡ it.0.said =
      get_or_from_slice_get (map (λ (m : Machine). m.said) machines) k it.0.said said (slice_get-map (λ (m : Machine). m.said) machines k ∙ ap (option_map (λ (m : Machine). m.said)) it.1) in
      let p = judged_as says (slice_get faults k) n cycles (replicate (length (cells n)) X) it.0.state.items it.0.said sound fits refl (h.others k it.0 it.1 (omega arith)) in
      subst (IsJudged says n (Some (get_or faults k f)) cycles) (sym own) (subst (λ g. IsJudged says n g cycles it.0.said) (slice_get-get_or faults k f l) p))

  -- the machines that go side by side are as far as before the leg
  pub team_begins : (played leg : List Burst) (start end : ℕ) (machines : List Machine) (places : List ℕ) (lines : List Fault) (packed : List Lanes) (found : List (Option Played)) → end ≤ length machines
      → AreOpen machines start end places → AreLines faults places lines → ArePacked machines places (length (cells n)) packed → found ≡ replicate (length places) None → AreInLeg says faults n played leg start machines
      → ArePlayed says lines n (all_cycles played) packed found
  team_begins played leg start end machines places lines packed found within opens are pack none h = record {
    size = ap length none ∙ (length-replicate (length places) None ∙ sym (lines_length faults places lines are));
    each = λ k l.
        let p = some_at places k (let e = lines_length faults places lines are in omega (arith, l)) in
        let o = opens.each k p.0 p.1 in
        let it = some_at machines p.0 (let high = o.1 in omega (arith, high, within)) in
        let begin = replicate (length (cells n)) X in
        let cycles = all_cycles played in
        let said : it.0.said ≡ found_at found k = o.2 it.0 it.1 ∙ (sym (none_found (length places) k) ∙ ap (λ xs. found_at xs k) (sym none)) in
        subst (λ g. PlaysOn says g n cycles 0 begin (lanes k packed) (found_at found k)) (sym (line_at faults places lines k p.0 are p.1))
        (subst (λ s. PlaysOn says (slice_get faults p.0) n cycles 0 begin s (found_at found k)) (sym (pack.each k p.0 it.0 p.1 it.1))
        (subst (PlaysOn says (slice_get faults p.0) n cycles 0 begin it.0.state.items) said (h.others p.0 it.0 it.1 o.0)));
  }

  -- the same of their places and lines as they are lent
  pub team_ready : (played leg : List Burst) (start end : ℕ) (machines : List Machine) (places places2 : List ℕ) (lines lines2 : List Fault) (packed : List Lanes) (size : ℕ) → IsTeam machines start places end
      → places2 ≡ places → lines2 ≡ lines → AreLines faults places2 lines → ArePacked machines places2 size packed → size ≡ length (cells n) → AreInLeg says faults n played leg start machines
      → ArePlayed says lines2 n (all_cycles played) packed (replicate (length lines2) None)
  team_ready played leg start end machines places places2 lines lines2 packed size team one two are pack sized h =
      let own = team_lines faults places places2 lines lines2 one two are in
      team_begins played leg start end machines places lines2 packed (replicate (length lines2) None) team.within.1 team.opens own
      (subst (λ k. ArePacked machines places k packed) sized (subst (λ ps. ArePacked machines ps size packed) one pack)) (ap (λ k. replicate k None) (lines_length faults places lines2 own)) h

  told_stays : (f : Option Fault) (cs ds : List Cycle) (start state : List Tri) (said : Option Played) → said ≢ None → PlaysOn says f n cs 0 start state said → PlaysOn says f n (cs ++ ds) 0 start state said
  told_stays f cs ds start state None told h = absurd (told refl)
  told_stays f cs ds start state (Some p) told h = plays_found says f n cs ds 0 start state p h

  -- where each machine is as before and none of the team, or was played through the leg, all are so far up to where the team ends
  leg_step : (played leg : List Burst) (start end : ℕ) (old new : List Machine) (places : List ℕ) → start ≤ end → AreOpen old start end places → length new ≡ length old
      → ((place : ℕ) (m : Machine) → slice_get new place ≡ Some m
      → ((slice_get old place ≡ Some m) × ((k : ℕ) → slice_get places k ≢ Some place)) ⊎ ((place < end) × PlaysAt says faults n (all_cycles played ++ all_cycles leg) place m))
      → AreInLeg says faults n played leg start old → AreInLeg says faults n played leg end new
  leg_step played leg start end old new places low opens same cases h = record {
    size = same ∙ h.size;
    done = λ place m there inside. elim (cases place m there) [
      | inl q ↦ elim (cases_lt place start) [
        | inl before ↦ h.done place m q.0 before
        | inr behind ↦
            told_stays (slice_get faults place) (all_cycles played) (all_cycles leg) (replicate (length (cells n)) X) m.state.items m.said
            (λ none. let at = opens.all place m q.0 (omega (arith, behind)) inside none in q.1 at.0 at.1)
            (h.others place m q.0 (omega (arith, behind)))
      ]
      | inr q ↦ q.1
    ];
    others = λ place m there outside. elim (cases place m there) [
      | inl q ↦ h.others place m q.0 (omega (arith, low, outside))
      | inr q ↦ absurd (let inside = q.0 in omega (arith, inside, outside))
    ];
  }

  -- where none is open
  pub leg_skips : (played leg : List Burst) (start end : ℕ) (machines : List Machine) (places : List ℕ) → start ≤ end → AreOpen machines start end places → length places ≡ 0 → AreInLeg says faults n played leg start machines
      → AreInLeg says faults n played leg end machines
  leg_skips played leg start end machines places low opens none h =
      leg_step played leg start end machines machines places low opens refl (λ place m there. inl (there, λ k e. let inside = slice_get_within places k place e in omega (arith, inside, none))) h

  -- once a team was played through the leg, and taken apart
  pub leg_more : (played leg : List Burst) (start end : ℕ) (old new : List Machine) (places : List ℕ) (lines : List Fault) (state : List Lanes) (said : List (Option Played)) → start ≤ end → AreOpen old start end places
      → AreLines faults places lines → AreFiled places (length places) state said old new → ArePlayed says lines n (all_cycles played ++ all_cycles leg) state said → AreInLeg says faults n played leg start old
      → AreInLeg says faults n played leg end new
  leg_more played leg start end old new places lines state said low opens are filed plays h =
      leg_step played leg start end old new places low opens filed.size
      (λ place m there. elim (filed.each place m there) [
        | inl q ↦ inl (q.0, λ k e. q.1 k (slice_get_within places k place e) e)
        | inr q ↦
            let begin = replicate (length (cells n)) X in
            let cycles = all_cycles played ++ all_cycles leg in
            let inside : q.0 < length lines = (let e = lines_length faults places lines are in let l = q.1 in omega (arith, l, e)) in
            inr (
              (opens.each q.0 place q.2).1,
              subst (λ g. PlaysOn says g n cycles 0 begin m.state.items m.said) (line_at faults places lines q.0 place are q.2)
                  (subst (λ s. PlaysOn says (slice_get lines q.0) n cycles 0 begin s m.said) (sym q.3.state_is)
                  (subst (PlaysOn says (slice_get lines q.0) n cycles 0 begin (lanes q.0 state)) (sym q.3.said_is) (plays.each q.0 inside))),
            )
      ]) h

-- ---- the bursts of a leg

-- what is played up to its end
pub leg_taken : (bursts : List Burst) (from to : ℕ) → from ≤ to → all_cycles (take to bursts) ≡ all_cycles (take from bursts) ++ all_cycles (take (to - from) (drop from bursts))
leg_taken bursts from to l =
    let e : to ≡ from + (to - from) = omega arith in
    ap (λ k. all_cycles (take k bursts)) e
    ∙ (ap all_cycles (take-add from (to - from) bursts) ∙ flat_map-append cycles_of (take from bursts) (take (to - from) (drop from bursts)))

leg_whole : (bursts : List Burst) (from to : ℕ) → from ≤ to → all_cycles bursts ≡ (all_cycles (take from bursts) ++ all_cycles (take (to - from) (drop from bursts))) ++ all_cycles (drop to bursts)
leg_whole bursts from to l =
    ap all_cycles (sym (take-append-drop to bursts)) ∙ (flat_map-append cycles_of (take to bursts) (drop to bursts) ∙ ap (λ cs. cs ++ all_cycles (drop to bursts)) (leg_taken bursts from to l))

pub leg_fits : (n : Netlist) (bursts : List Burst) (from to : ℕ) (cycles : List Cycle) → from ≤ to → cycles ≡ all_cycles bursts → All (IsCycleOf n) cycles → All (IsCycleOf n) (all_cycles (take (to - from) (drop from bursts)))
leg_fits n bursts from to cycles l same fits =
    let parts = all_cycles (take from bursts) ++ all_cycles (take (to - from) (drop from bursts)) in
    all_right (IsCycleOf n) (all_cycles (take from bursts)) (all_cycles (take (to - from) (drop from bursts)))
    (all_left (IsCycleOf n) parts (all_cycles (drop to bursts)) (subst (λ cs. All (IsCycleOf n) cs) (same ∙ leg_whole bursts from to l) fits))

pub leg_few : (bursts : List Burst) (from to : ℕ) (cycles : List Cycle) → from ≤ to → cycles ≡ all_cycles bursts
    → length (all_cycles (take from bursts)) + length (all_cycles (take (to - from) (drop from bursts))) ≤ length cycles
leg_few bursts from to cycles l same =
    let a = all_cycles (take from bursts) in
    let b = all_cycles (take (to - from) (drop from bursts)) in
    let c = all_cycles (drop to bursts) in
    let whole : length cycles ≡ length ((a ++ b) ++ c) = ap length (same ∙ leg_whole bursts from to l) in
    let one = length-append (a ++ b) c in
    let two = length-append a b in
    omega (arith, whole, one, two)
