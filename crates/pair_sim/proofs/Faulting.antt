-- Another fault, or none, comes onto a line.
use Rattle.std.proofs.Common.{◌≡◌, ◌≢◌, ◌<◌, ◌≤◌, ℕ, List, [], ◌∷◌, length, get_or, reverse, Bool, true, false, Option, Some, None, refl, sym, ◌∙◌, ap, subst, ◌&&◌, eqb, vec_capacity, arith}
use Rattle.std.specs.List.{flat_map}
use Rattle.std.proofs.lemmas.List.{length-reverse}
use Rattle.netlist.proofs.Lists.{contains_nil}
use Rattle.std.proofs.lemmas.Bool.{and_parts, eqb-true}
use Rattle.statement.specs.declared.lines.Fault.{Fault}
use Rattle.statement.specs.declared.lines.Line.{Line}
use Rattle.statement.specs.declared.lines.Line.TheVariants.{Stem, Pin, Out}
use Rattle.netlist.specs.Conditions.{IsSound}
use Rattle.statement.specs.Patterns.{Holds}
use Rattle.netlist.specs.Holds.{AreHoldsOf}
use Rattle.netlist.specs.Lines.{IsLineOf}
use Rattle.statement.specs.Netlists.{Netlist, signals}
use Rattle.netlist.proofs.Placed.{signal_below, definition_below}
use Rattle.tri.specs.declared.labels.Label.{Label}
use Rattle.tri.specs.Labels.{Decisions, labels, source_label, held_value, input_labels, cell_labels}
use Rattle.tri.specs.declared.labelling.Labelling.{Labelling}
use Rattle.tri.specs.Labelling.{AreLabelled, decided_in}
use Rattle.netlist.specs.Settled.{at}
use Rattle.events.specs.Standing.{Standing, SettlesAnew}
use Rattle.events.specs.Stuck.{IsObservedOnly}
use Rattle.events.specs.Trails.{AreChanges}
use Rattle.label_events.specs.Lines.{IsLineOfOthers, AgreeOnOtherLines}
use Rattle.label_events.proofs.Changing.{fault_changes, fault_changes_nothing, is_driven}
use Rattle.pair_sim.specs.declared.levels.Level.{Level}
use Rattle.tri.specs.Paths.{decisions}
use Rattle.pair_sim.specs.inner.Levels.{path_of}
use Rattle.pair_sim.specs.inner.Stored.{IsStored}
use Rattle.pair_sim.proofs.StoreLemmas.{stored_first}
use Rattle.observed_points.specs.declared.points.Points.{Points}
use Rattle.pair_sim.specs.declared.reach.Reach.{Reach}
use Rattle.pair_sim.specs.inner.Reach.{reached_one, IsReach}
use Rattle.pair_sim.specs.inner.Steps.{IsFaultPut, IsFaultSet, IsFaultReplaced, site_of}
use Rattle.pair_sim.proofs.Reaching.{reached_all}

is_false : (b : Bool) → (b ≡ true → ⊥) → b ≡ false
is_false true h = absurd (h refl)
is_false false h = refl

some_same : (x y : ℕ) → Some x ≡ Some y → x ≡ y
some_same x y e = cc

-- the line enters the equation of no other signal
pub off_site : (n : Netlist) (line : Line) (x : ℕ) → site_of line ≡ Some x → (y : ℕ) → y ≢ x → IsLineOfOthers n line y
off_site n (Stem z) x e y ne = (is_false (eqb z y) (λ h. ne (sym (eqb-true z y h) ∙ some_same z x e)), λ d c i k. refl)
off_site n (Pin z j) x e y ne = (refl, λ d c i k. is_false (eqb z y && eqb j k) (λ h. ne (sym (eqb-true z y (and_parts (eqb z y) (eqb j k) h).0) ∙ some_same z x e)))
off_site n (Out z) x e y ne = absurd cc

-- nor of any, where there is no such signal
pub off_all : (n : Netlist) (line : Line) → site_of line ≡ None → (y : ℕ) → IsLineOfOthers n line y
off_all n (Stem z) e y = absurd cc
off_all n (Pin z j) e y = absurd cc
off_all n (Out z) e y = (refl, λ d c i k. refl)

pub site_within : (n : Netlist) → IsSound n → (line : Line) → IsLineOf n line → (x : ℕ) → site_of line ≡ Some x → x < length (signals n)
site_within n sound (Stem z) w x e = subst (λ y. y < length (signals n)) (some_same z x e) (signal_below n sound.formed.numbered z w)
site_within n sound (Pin z j) w x e =
    let high = definition_below n sound.formed.numbered w.0 w.1 in
    let id : w.0.id ≡ z = w.2 in
    let same = some_same z x e in
    omega arith
site_within n sound (Out z) w x e = absurd cc

module _ (line : Line) (f g : Option Fault) (path : Decisions) (n : Netlist) (holds : Holds) (same : AgreeOnOtherLines line f g) (old new : List Label) where
  pub put_there : IsSound n → AreHoldsOf n holds → (x : ℕ) → site_of line ≡ Some x
      → SettlesAnew (labels g path) n x (source_label path x (held_value (get_or holds x None))) old new → length new ≡ length old
      → AreLabelled f path n holds old → AreLabelled g path n holds new
  put_there sound fit x site settles size was = record {
    size = size ∙ was.size;
    labels = λ d. settles.each (input_labels path n holds) (cell_labels path n) d (is_driven g path n holds sound fit x)
        (fault_changes line f g path n same holds (at old d) x (off_site n line x site) (was.labels d));
  }

  pub put_nowhere : site_of line ≡ None → AreLabelled f path n holds old → AreLabelled g path n holds old
  put_nowhere site was = record {
    size = was.size;
    labels = λ d. fault_changes_nothing line f g path n same holds (at old d) (off_all n line site) (was.labels d);
  }

-- no change
pub nothing_changed : (values : List Label) → AreChanges values values []
nothing_changed values = record {
  size = refl;
  once = λ i k d less low. absurd (omega (arith, low));
  before = λ c e m. absurd (contains_nil c m);
  changed = λ c e m. absurd (contains_nil c m);
  others = λ x e h. refl;
  undone_is = refl;
}

path_length : (levels : List Level) → length (path_of levels) ≡ length levels
path_length [] = refl
path_length (v ∷ vs) = let h = path_length vs in omega arith

pub depth_is : (levels : List Level) → length (path_of (reverse levels)) ≡ length levels
depth_is levels = path_length (reverse levels) ∙ length-reverse levels

-- a path without decisions has no levels
pub no_levels : (levels : List Level) → path_of (reverse levels) ≡ [] → levels ≡ []
no_levels [] e = refl
no_levels (v ∷ vs) e = absurd (let l = ap length e in let d = depth_is (v ∷ vs) in omega arith)

-- a fault is put, and then another one
pub put_again : (holds : Holds) (f g : Option Fault) (old mid new : Labelling) (s s1 s2 : Standing Label) → IsFaultPut holds f old mid s s1 → IsFaultPut holds g mid new s1 s2
    → IsFaultPut holds g old new s s2
put_again holds f g old mid new s s1 s2 v w = record {
  fault_is = w.fault_is;
  row = w.row ∙ v.row;
  netlist = w.netlist ∙ v.netlist;
  room = w.room ∙ v.room;
  trail = w.trail;
  labelled = λ was.
      let there : AreLabelled mid.fault (decided_in mid.decided.items) s1.netlist holds s1.values =
      subst (λ (o : Option Fault). AreLabelled o (decided_in mid.decided.items) s1.netlist holds s1.values) (sym v.fault_is)
      (subst (λ (r : List (Option Bool)). AreLabelled f (decided_in r) s1.netlist holds s1.values) (sym v.row)
      (subst (λ (n : Netlist). AreLabelled f (decided_in old.decided.items) n holds s1.values) (sym v.netlist) (v.labelled was))) in
      subst (λ (n : Netlist). AreLabelled g (decided_in old.decided.items) n holds s2.values) v.netlist
      (subst (λ (r : List (Option Bool)). AreLabelled g (decided_in r) s1.netlist holds s2.values) v.row (w.labelled there));
}

-- a fault is taken away, and then another one is set
pub replaced : (holds : Holds) (fault : Fault) (old mid new : Labelling) (reach reach' : Reach) (s s1 s2 s3 : Standing Label)
    → IsFaultPut holds None old mid s s1 → IsFaultSet holds fault mid new s1 s2 → s3 ≡ record s2 { trail = [] }
    → reach'.points ≡ reach.points → (reach'.known ≡ true → IsObservedOnly s2.netlist fault.line → ⊥)
    → reach'.signals.items ≡ flat_map (reached_one reach.points.first.items (length reach.points.seen.items) s2.values) s2.trail
    → vec_capacity reach'.signals ≡ vec_capacity reach.signals → IsFaultReplaced holds fault old new reach reach' s s3
replaced holds fault old mid new reach reach' s s1 s2 s3 v w e points known noted room =
    let netlist : s2.netlist ≡ s.netlist = w.netlist ∙ v.netlist in
    let values : s3.values ≡ s2.values = ap (λ (t : Standing Label). t.values) e in
    record {
      put = put_again holds None (Some fault) old mid new s s1 s3 v (record {
        fault_is = w.fault_is;
        row = w.row;
        netlist = ap (λ (t : Standing Label). t.netlist) e ∙ w.netlist;
        room = ap (λ (t : Standing Label). t.room) e ∙ w.room;
        trail = ap (λ (t : Standing Label). t.trail) e;
        labelled = λ was. subst (λ (vs : List Label). AreLabelled (Some fault) (decided_in mid.decided.items) s1.netlist holds vs) (sym values) (w.labelled was);
      });
      good = s1.values;
      good_are = v.labelled;
      changes = s2.trail;
      are_changes = subst (λ (vs : List Label). AreChanges s1.values vs s2.trail) (sym values) w.are_changes;
      points = points;
      known = λ k only. known k (subst (λ (n : Netlist). IsObservedOnly n fault.line) (sym netlist) only);
      signals_are = noted ∙ ap (λ (vs : List Label). flat_map (reached_one reach.points.first.items (length reach.points.seen.items) vs) s2.trail) (sym values);
      reach_room = room;
    }

-- a simulation without a decision is stored as it should be after its fault is another one
pub stored_put : (f g : Fault) (holds : Holds) (old new : Labelling) (levels : List Level) (names names' : List ℕ) (s s' : Standing Label) (lc nc nc' : ℕ)
    → IsStored f holds old.fault old.decided.items levels names s lc nc → levels ≡ [] → IsFaultPut holds (Some g) old new s s' → names' ≡ [] → nc ≤ nc'
    → IsStored g holds new.fault new.decided.items levels names' s' lc nc'
stored_put f g holds old new levels names names' s s' lc nc nc' h none w nobody room =
    let free : (x : ℕ) → decided_in old.decided.items x ≡ None = λ x. h.kept.row_is x ∙ ap (λ (vs : List Level). decisions (path_of (reverse vs)) x) none in
    let path : decided_in old.decided.items ≡ decisions (path_of (reverse levels)) = λ i x. h.kept.row_is x i in
    let empty : decided_in old.decided.items ≡ decisions [] = λ i x. free x i in
    let size : length (signals s'.netlist) ≡ length (signals s.netlist) = ap (λ (n : Netlist). length (signals n)) w.netlist in
    let was : AreLabelled old.fault (decided_in old.decided.items) s.netlist holds s.values =
    subst (λ (p : Decisions). AreLabelled old.fault p s.netlist holds s.values) (sym path)
    (subst (λ (o : Option Fault). AreLabelled o (decisions (path_of (reverse levels))) s.netlist holds s.values) (sym h.fault) h.kept.labelled) in
    let are : AreLabelled (Some g) (decisions []) s'.netlist holds s'.values =
    subst (λ (n : Netlist). AreLabelled (Some g) (decisions []) n holds s'.values) (sym w.netlist)
    (subst (λ (p : Decisions). AreLabelled (Some g) p s.netlist holds s'.values) empty (w.labelled was)) in
    let row = ap length w.row in
    let row_size = h.kept.row_size in
    let a = h.changes_room in
    let b = h.levels_room in
    let c = h.names_room in
    let d = w.room in
    stored_first g holds new.fault new.decided.items levels names' s' lc nc' w.fault_is (omega arith) (λ x. ap (λ (r : List (Option Bool)). decided_in r x) w.row ∙ free x) are
    w.trail none nobody (omega arith) (omega arith) (omega arith)

-- and so is what is known of the new fault's reach
pub reach_put : (f g : Fault) (holds : Holds) (old new : Labelling) (reach reach' : Reach) (levels : List Level) (names : List ℕ) (s s' : Standing Label) (lc nc : ℕ)
    → IsSound s.netlist → IsStored f holds old.fault old.decided.items levels names s lc nc → levels ≡ []
    → IsReach f s.netlist holds reach.points.seen.items reach.points.first.items reach.points.numbers.items reach.known reach.signals.items (vec_capacity reach.signals)
    → IsFaultReplaced holds g old new reach reach' s s'
    → IsReach g s'.netlist holds reach'.points.seen.items reach'.points.first.items reach'.points.numbers.items reach'.known reach'.signals.items (vec_capacity reach'.signals)
reach_put f g holds old new reach reach' levels names s s' lc nc sound h none r w =
    let free : (x : ℕ) → decided_in old.decided.items x ≡ None = λ x. h.kept.row_is x ∙ ap (λ (vs : List Level). decisions (path_of (reverse vs)) x) none in
    let path : decided_in old.decided.items ≡ decisions (path_of (reverse levels)) = λ i x. h.kept.row_is x i in
    let empty : decided_in old.decided.items ≡ decisions [] = λ i x. free x i in
    let was : AreLabelled old.fault (decided_in old.decided.items) s.netlist holds s.values =
    subst (λ (p : Decisions). AreLabelled old.fault p s.netlist holds s.values) (sym path)
    (subst (λ (o : Option Fault). AreLabelled o (decisions (path_of (reverse levels))) s.netlist holds s.values) (sym h.fault) h.kept.labelled) in
    let good : AreLabelled None (decisions []) s.netlist holds w.good = subst (λ (p : Decisions). AreLabelled None p s.netlist holds w.good) empty (w.good_are was) in
    let are : AreLabelled (Some g) (decisions []) s.netlist holds s'.values = subst (λ (p : Decisions). AreLabelled (Some g) p s.netlist holds s'.values) empty (w.put.labelled was) in
    let there : IsReach g s.netlist holds reach.points.seen.items reach.points.first.items reach.points.numbers.items reach'.known reach'.signals.items (vec_capacity reach'.signals) = record {
      points_are = r.points_are;
      reached = λ k. reached_all s.netlist sound reach.points.seen.items reach.points.first.items reach.points.numbers.items r.points_are g holds w.good s'.values w.changes good are
          w.are_changes reach'.signals.items w.signals_are (w.known k);
      room_is = (let a = r.room_is in let b = w.reach_room in omega arith);
    } in
    subst (λ (n : Netlist). IsReach g n holds reach'.points.seen.items reach'.points.first.items reach'.points.numbers.items reach'.known reach'.signals.items (vec_capacity reach'.signals)) (sym w.put.netlist)
    (subst (λ (p : Points). IsReach g s.netlist holds p.seen.items p.first.items p.numbers.items reach'.known reach'.signals.items (vec_capacity reach'.signals)) (sym w.points) there)
