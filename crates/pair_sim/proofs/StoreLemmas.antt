-- A simulation is stored as it should be after each step.
use Rattle.std.proofs.Common.{◌≡◌, ◌≤◌, ◌<◌, ◌+◌, ◌*◌, ℕ, Bool, true, false, List, [], ◌∷◌, ◌++◌, map, length, take, drop, reverse, Option, Some, None, refl, sym, ◌∙◌, ap, subst, inl, inr, arith}
use Rattle.std.specs.Bool.{MatchBool}
use Rattle.std.specs.List.{Contains, list_any}
use Rattle.std.proofs.lemmas.Bool.{cases_Bool, both_ways}
use Rattle.std.proofs.lemmas.List.{length-map, length-append}
use Rattle.statement.specs.declared.kinds.Tri.TheVariants.{X}
use Rattle.statement.specs.declared.lines.Fault.{Fault}
use Rattle.statement.specs.Patterns.{Holds}
use Rattle.statement.specs.Netlists.{Netlist, signals}
use Rattle.netlist.specs.Conditions.{IsSound}
use Rattle.netlist.specs.Settled.{at}
use Rattle.netlist.proofs.Lists.{any_true, any_from}
use Rattle.tri.specs.declared.labels.Label.{Label}
use Rattle.tri.specs.declared.labelling.Labelling.{Labelling}
use Rattle.tri.specs.Labels.{IsContradicted, labels, label_of}
use Rattle.tri.specs.Labelling.{AreLabelled, decided_in}
use Rattle.tri.specs.Paths.{decisions, IsUnknown}
use Rattle.events.specs.declared.trails.Change.{Change}
use Rattle.events.specs.Standing.{Standing, Moves, SettlesAnew}
use Rattle.pair_sim.specs.declared.levels.Level.{Level}
use Rattle.pair_sim.specs.inner.Levels.{blank, path_of, clashes_at, is_contradicted, IsKept}
use Rattle.pair_sim.specs.inner.Steps.{IsRelabelled, IsForgotten, IsNamed, IsPlayedBack, IsSettledBack}
use Rattle.pair_sim.specs.inner.Stored.{IsStored}
use Rattle.pair_sim.proofs.Counts.{length_once}
use Rattle.pair_sim.proofs.Noting.{few_changes}
use Rattle.pair_sim.proofs.Rows.{undecided_none}
use Rattle.pair_sim.proofs.Assigning.{assigned_possible, assigned_contradicted, was_contradicted, clash_here, new_changes, level_room}
use Rattle.pair_sim.proofs.Undoing.{undone_possible, undone_contradicted}

-- the trail has room for what a call changes
pub trail_room : (f : Fault) (holds : Holds) (stuck : Option Fault) (row : List (Option Bool)) (levels : List Level) (names : List ℕ) (s : Standing Label) (lc nc : ℕ)
    → IsSound s.netlist → IsStored f holds stuck row levels names s lc nc → length s.trail ≤ s.room
trail_room f holds stuck row levels names s lc nc sound h =
    omega (arith, few_changes f s.netlist holds sound (reverse levels) s.trail s.values h.kept.back, h.changes_room)

-- and so have the names
pub name_room : (f : Fault) (holds : Holds) (stuck : Option Fault) (row : List (Option Bool)) (levels : List Level) (names : List ℕ) (s s' : Standing Label) (lc nc mark : ℕ)
    → IsSound s.netlist → IsStored f holds stuck row levels names s lc nc → Moves s s' → mark ≡ length s.trail → length names + length s'.trail ≤ nc + mark
name_room f holds stuck row levels names s s' lc nc mark sound h moves e =
    let few = few_changes f s.netlist holds sound (reverse levels) s.trail s.values h.kept.back in
    let size = h.kept.labelled.size in
    let once : length moves.changes ≤ length (signals s.netlist) =
    length_once (length (signals s.netlist)) moves.changes (λ c m. let l = (moves.are_changes.before c blank m).0 in omega arith) moves.are_changes.once in
    let n = ap length h.kept.names_are in
    let m = length-map s.trail (λ (c : Change Label). c.signal) in
    let t = ap length moves.trail in
    let a = length-append s.trail moves.changes in
    let r = h.names_room in
    omega arith

-- and the levels
pub room_on_levels : (f : Fault) (holds : Holds) (old new : Labelling) (levels : List Level) (names : List ℕ) (s s' : Standing Label) (lc nc x : ℕ) (b : Bool)
    → IsSound s.netlist → IsStored f holds old.fault old.decided.items levels names s lc nc → IsUnknown f s.netlist holds (path_of (reverse levels)) x
    → IsRelabelled x (Some b) old new s s' → length levels < lc
room_on_levels f holds old new levels names s s' lc nc x b sound h w step =
    let settles : SettlesAnew (labels (Some f) (decided_in new.decided.items)) s.netlist x (label_of (Some b) X X false) s.values s'.values =
    subst (λ o. SettlesAnew (labels o (decided_in new.decided.items)) s.netlist x (label_of (Some b) X X false) s.values s'.values) (step.fault ∙ h.fault) step.settles in
    let l = level_room f holds old.decided.items levels names s sound h.kept x b w s' step.moves new.decided.items step.row settles in
    let r = h.levels_room in
    omega arith

each_false : (t : Change Label → Bool) (cs : List (Change Label)) → list_any t cs ≡ false → (c : Change Label) → Contains cs c → t c ≡ false
each_false t cs none c m = elim (cases_Bool (t c)) [
  | inl yet ↦ absurd (both_ways (list_any t cs) none (any_from t cs c m yet))
  | inr off ↦ off
]

module _ (f : Fault) (holds : Holds) (old new : Labelling) (levels : List Level) (names names' : List ℕ) (s s1 s2 : Standing Label) (lc nc lc' nc' x mark : ℕ) (b : Bool)
    (stored : IsStored f holds old.fault old.decided.items levels names s lc nc) (sound : IsSound s.netlist) (w : IsUnknown f s.netlist holds (path_of (reverse levels)) x)
    (mark_is : mark ≡ length s.trail) (step : IsRelabelled x (Some b) old new s s1) where
  row' : List (Option Bool)
  row' = new.decided.items

  settles : SettlesAnew (labels (Some f) (decided_in new.decided.items)) s.netlist x (label_of (Some b) X X false) s.values s1.values
  settles = subst (λ o. SettlesAnew (labels o (decided_in new.decided.items)) s.netlist x (label_of (Some b) X X false) s.values s1.values) (step.fault ∙ stored.fault) step.settles

  level : Bool → Level
  level c = record { signal = x; bit = b; mark = mark; contradicted = c }

  marked : (c : Bool) → levels ++ record { signal = x; bit = b; mark = length s.trail; contradicted = c } ∷ [] ≡ levels ++ record { signal = x; bit = b; mark = mark; contradicted = c } ∷ []
  marked c = ap (λ (m : ℕ). let v : Level = record { signal = x; bit = b; mark = m; contradicted = c } in levels ++ v ∷ []) (sym mark_is)

  new_ones : drop mark s1.trail ≡ step.moves.changes
  new_ones = ap (λ m. drop m s1.trail) mark_is ∙ new_changes f holds old.decided.items levels names s sound stored.kept x b w s1 step.moves new.decided.items step.row settles

  forgotten : (was : Bool) → was ≡ is_contradicted (reverse levels) → IsForgotten was new.decided.items mark s1 s2 names names'
      → IsKept f s.netlist holds new.decided.items (levels ++ record { signal = x; bit = b; mark = mark; contradicted = true } ∷ []) names' s2.values s2.trail
  forgotten was flag h =
      let contradicted : IsContradicted (decisions ((x, b) ∷ path_of (reverse levels))) s.netlist (at s1.values blank) =
      elim h.cause [
        | inl already ↦ was_contradicted f holds old.decided.items levels names s sound stored.kept x b w s1 step.moves new.decided.items step.row settles (sym flag ∙ already)
        | inr some ↦
            let c = any_true (clashes_at new.decided.items s1.values) step.moves.changes (subst (λ (cs : List (Change Label)). list_any (clashes_at new.decided.items s1.values) cs ≡ true) new_ones some) in
            clash_here f holds old.decided.items levels names s sound stored.kept x b w s1 step.moves new.decided.items step.row settles c.0 c.1 c.2
      ] in
      let kept = assigned_contradicted f holds old.decided.items levels names s sound stored.kept x b w s1 step.moves new.decided.items step.row settles contradicted in
      subst (λ (t : Standing Label). IsKept f s.netlist holds new.decided.items (levels ++ record { signal = x; bit = b; mark = mark; contradicted = true } ∷ []) names' t.values t.trail) (sym h.is)
      (subst (λ (ns : List ℕ). IsKept f s.netlist holds new.decided.items (levels ++ record { signal = x; bit = b; mark = mark; contradicted = true } ∷ []) ns s1.values (take mark s1.trail)) (sym h.names_are)
      (subst (λ (vs : List Level). IsKept f s.netlist holds new.decided.items vs names s1.values (take mark s1.trail)) (marked true)
      (subst (λ m. IsKept f s.netlist holds new.decided.items (levels ++ record { signal = x; bit = b; mark = length s.trail; contradicted = true } ∷ []) names s1.values (take m s1.trail)) (sym mark_is) kept)))

  named : (was : Bool) → was ≡ is_contradicted (reverse levels) → IsNamed was new.decided.items mark s1 s2 names names'
      → IsKept f s.netlist holds new.decided.items (levels ++ record { signal = x; bit = b; mark = mark; contradicted = false } ∷ []) names' s2.values s2.trail
  named was flag h =
      let none : list_any (clashes_at new.decided.items s1.values) step.moves.changes ≡ false =
      subst (λ (cs : List (Change Label)). list_any (clashes_at new.decided.items s1.values) cs ≡ false) new_ones h.none in
      let kept = assigned_possible f holds old.decided.items levels names s sound stored.kept x b w s1 step.moves new.decided.items step.row settles (sym flag ∙ h.possible)
      (each_false (clashes_at new.decided.items s1.values) step.moves.changes none) names' (h.names_are ∙ ap (λ (cs : List (Change Label)). names ++ map (λ (c : Change Label). c.signal) cs) new_ones) in
      subst (λ (t : Standing Label). IsKept f s.netlist holds new.decided.items (levels ++ record { signal = x; bit = b; mark = mark; contradicted = false } ∷ []) names' t.values t.trail) (sym h.is)
      (subst (λ (vs : List Level). IsKept f s.netlist holds new.decided.items vs names' s1.values s1.trail) (marked false) kept)

  module _ (was result : Bool) (flag : was ≡ is_contradicted (reverse levels)) (levels' : List Level) (pushed : levels' ≡ levels ++ record { signal = x; bit = b; mark = mark; contradicted = result } ∷ [])
      (lr : lc ≤ lc') (nr : nc ≤ nc') where
    kept_now : (r : Bool) → MatchBool r (IsForgotten was new.decided.items mark s1 s2 names names') (IsNamed was new.decided.items mark s1 s2 names names')
        → IsKept f s.netlist holds new.decided.items (levels ++ record { signal = x; bit = b; mark = mark; contradicted = r } ∷ []) names' s2.values s2.trail
    kept_now true h = forgotten was flag h
    kept_now false h = named was flag h

    same_case : (r : Bool) → MatchBool r (IsForgotten was new.decided.items mark s1 s2 names names') (IsNamed was new.decided.items mark s1 s2 names names') → (s2.netlist ≡ s.netlist) × (s2.room ≡ s.room)
    same_case true h = (ap (λ (t : Standing Label). t.netlist) h.is ∙ step.moves.netlist, ap (λ (t : Standing Label). t.room) h.is ∙ step.moves.room)
    same_case false h = (ap (λ (t : Standing Label). t.netlist) h.is ∙ step.moves.netlist, ap (λ (t : Standing Label). t.room) h.is ∙ step.moves.room)

    pub same_netlist : MatchBool result (IsForgotten was new.decided.items mark s1 s2 names names') (IsNamed was new.decided.items mark s1 s2 names names') → s2.netlist ≡ s.netlist
    same_netlist h = (same_case result h).0

    pub stored_assigned : MatchBool result (IsForgotten was new.decided.items mark s1 s2 names names') (IsNamed was new.decided.items mark s1 s2 names names')
        → IsStored f holds new.fault new.decided.items levels' names' s2 lc' nc'
    stored_assigned h =
        let same = same_case result h in
        let size : length (signals s2.netlist) ≡ length (signals s.netlist) = ap (λ (n : Netlist). length (signals n)) same.0 in
        let a = stored.changes_room in
        let b = stored.levels_room in
        let c = stored.names_room in
        let d = same.1 in
        record {
          fault = step.fault ∙ stored.fault;
          kept = subst (λ (n : Netlist). IsKept f n holds new.decided.items levels' names' s2.values s2.trail) (sym same.0)
              (subst (λ (vs : List Level). IsKept f s.netlist holds new.decided.items vs names' s2.values s2.trail) (sym pushed) (kept_now result h));
          changes_room = omega arith;
          levels_room = omega arith;
          names_room = omega arith;
        }

-- ---- back

module _ (f : Fault) (holds : Holds) (old new : Labelling) (ls : List Level) (v : Level) (names names' : List ℕ) (s s' : Standing Label) (lc nc lc' nc' : ℕ)
    (stored : IsStored f holds old.fault old.decided.items (ls ++ v ∷ []) names s lc nc) (sound : IsSound s.netlist) where
  back_case : (r : Bool) → v.contradicted ≡ r → MatchBool r (IsSettledBack v.signal v.mark old new s s' names names') (IsPlayedBack v.signal v.mark old new s s' names names')
      → IsKept f s.netlist holds new.decided.items ls names' s'.values s'.trail × (new.fault ≡ old.fault) × (s'.netlist ≡ s.netlist) × (s'.room ≡ s.room)
  back_case true e h =
      let m = h.relabelled.moves in
      let settles : SettlesAnew (labels (Some f) (decided_in new.decided.items)) s.netlist v.signal (label_of None X X false) s.values h.between.values =
      subst (λ o. SettlesAnew (labels o (decided_in new.decided.items)) s.netlist v.signal (label_of None X X false) s.values h.between.values) (h.relabelled.fault ∙ stored.fault) h.relabelled.settles in
      let kept = undone_contradicted f s.netlist holds sound old.decided.items ls v names s.values s.trail stored.kept new.decided.items h.relabelled.row e h.between m.changes m.trail m.are_changes.size settles in (
        subst (λ (t : Standing Label). IsKept f s.netlist holds new.decided.items ls names' t.values t.trail) (sym h.is)
            (subst (λ (ns : List ℕ). IsKept f s.netlist holds new.decided.items ls ns h.between.values (take v.mark h.between.trail)) (sym h.names_are) kept),
        h.relabelled.fault,
        ap (λ (t : Standing Label). t.netlist) h.is ∙ m.netlist,
        ap (λ (t : Standing Label). t.room) h.is ∙ m.room,
      )
  back_case false e h = (
    subst (λ (t : Standing Label). IsKept f s.netlist holds new.decided.items ls names' t.values t.trail) (sym h.is)
        (undone_possible f s.netlist holds sound old.decided.items ls v names s.values s.trail stored.kept new.decided.items h.row e names' h.names_are),
    h.fault,
    ap (λ (t : Standing Label). t.netlist) h.is,
    ap (λ (t : Standing Label). t.room) h.is,
  )

  module _ (back : MatchBool v.contradicted (IsSettledBack v.signal v.mark old new s s' names names') (IsPlayedBack v.signal v.mark old new s s' names names')) where
    pub back_netlist : s'.netlist ≡ s.netlist
    back_netlist = (back_case v.contradicted refl back).2

    pub stored_undone : lc ≤ lc' → nc ≤ nc' → IsStored f holds new.fault new.decided.items ls names' s' lc' nc'
    stored_undone lr nr =
        let w = back_case v.contradicted refl back in
        let size : length (signals s'.netlist) ≡ length (signals s.netlist) = ap (λ (n : Netlist). length (signals n)) w.2 in
        let a = stored.changes_room in
        let b = stored.levels_room in
        let c = stored.names_room in
        let d = w.3 in
        record {
          fault = w.1 ∙ stored.fault;
          kept = subst (λ (n : Netlist). IsKept f n holds new.decided.items ls names' s'.values s'.trail) (sym w.2) w.0;
          changes_room = omega arith;
          levels_room = omega arith;
          names_room = omega arith;
        }

-- ---- without a decision

pub stored_first : (f : Fault) (holds : Holds) (stuck : Option Fault) (row : List (Option Bool)) (levels : List Level) (names : List ℕ) (s : Standing Label) (lc nc : ℕ)
    → stuck ≡ Some f → length row ≡ length (signals s.netlist) → ((x : ℕ) → decided_in row x ≡ None) → AreLabelled (Some f) (decisions []) s.netlist holds s.values
    → s.trail ≡ [] → levels ≡ [] → names ≡ [] → 4 * length (signals s.netlist) ≤ s.room → length (signals s.netlist) ≤ lc → 5 * length (signals s.netlist) ≤ nc
    → IsStored f holds stuck row levels names s lc nc
stored_first f holds stuck row levels names s lc nc fault size free are trail none nobody a b c = record {
  fault = fault;
  kept = subst (λ (vs : List Level). IsKept f s.netlist holds row vs names s.values s.trail) (sym none) (record {
    row_size = size;
    row_is = free;
    counted = undecided_none row free;
    labelled = are;
    back = trail;
    names_are = nobody ∙ ap (map (λ (c : Change Label). c.signal)) (sym trail);
  });
  changes_room = a;
  levels_room = b;
  names_room = c;
}
