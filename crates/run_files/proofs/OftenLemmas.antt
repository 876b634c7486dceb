-- Patterns that are gathered and chosen so that each fault is detected so many times.
use Rattle.std.proofs.Common.{◌≡◌, ◌≢◌, ℕ, zero, suc, ◌+◌, ◌<◌, ◌≤◌, inl, inr, Bool, false, true, cond, List, [], ◌∷◌, length, map, get_or, Option, None, Some, refl, sym, subst, arith}
use Rattle.std.specs.List.{All, AllPairs, AllZip, Contains, slice_get}
use Rattle.std.proofs.lemmas.Bool.{cases_order}
use Rattle.std.proofs.lemmas.List.{length-map}
use Rattle.std.proofs.lemmas.List.Elements.{All-nil}
use Rattle.std.proofs.lemmas.List.Kept.{AllPairs-cons}
use Rattle.std.proofs.lemmas.Option.{get_or_from_slice_get, slice_get-get_or, slice_get_read, slice_get_within}
use Rattle.netlist.proofs.Lists.{contains_cases, contains_head, contains_nil, contains_tail}
use Rattle.statement.specs.declared.lines.Fault.{Fault}
use Rattle.statement.specs.declared.lines.Point.{Point}
use Rattle.statement.specs.Netlists.{Netlist}
use Rattle.statement.specs.Patterns.{Holds, Pattern, IsDetectedAt, IsLastDetected}
use Rattle.cubes.specs.Cubes.{IsPatternOf}
use Rattle.word_sim.specs.Hits.{IsNeverDetected, LastDetected}
use Rattle.detections.specs.Times.{AreNeededMarks, IsAmongLast, IsNeededFor}
use Rattle.list_core.specs.Finished.{AreFinished, IsFinished, IsLastTold}
use Rattle.list_core.specs.Kept.{kept_from, new_place}
use Rattle.list_core.specs.declared.verdicts.Verdict.{Verdict}
use Rattle.list_core.specs.Verdicts.{verdict_at}
use Rattle.list_core.proofs.KeepLemmas.{kept_all, kept_at, kept_few, rises, source}
use Rattle.list_core.proofs.LastPlaces.{told_of}
use Rattle.fewer_patterns.specs.Fewer.{IsNoWorse}
use Rattle.run_files.specs.inner.Often.{AreChosen, AreGathered, AreJoined, AreTold, LosesNone, told_verdict}
use Rattle.run_files.proofs.JoinLemmas.{all_joined}
use Rattle.run_files.proofs.KnownLemmas.{seen_again}

contains_at : (faults : List Fault) (class : ℕ) (f : Fault) → slice_get faults class ≡ Some f → Contains faults f
contains_at faults class f at = (class, slice_get_within faults class f at, get_or_from_slice_get faults class f f at)

-- ---- gathered

-- what more patterns don't detect fewer don't
contained : (n : Netlist) (f : Fault) (old new : List Pattern) → ((p : Pattern) → Contains old p → Contains new p) → IsNeverDetected n new f → IsNeverDetected n old f
contained n f old new all never place point d =
    let lt = slice_get_within old place d.pattern d.at in
    let c = all d.pattern (place, lt, get_or_from_slice_get old place d.pattern d.pattern d.at) in
    never c.0 point (record { pattern = d.pattern; at = slice_get_read new (length new) c.0 d.pattern refl c.1 (sym c.2); detects = d.detects })

module _ (n : Netlist) (holds : Holds) (faults : List Fault) where
  -- each of the given patterns once
  pub first_gathered : (given all : List Pattern) → AreJoined [] given all → All (IsPatternOf n holds) given → length given + 64 ≤ 4294967296 → AreGathered n holds faults given all
  first_gathered given all is obey small = record {
    obey = all_joined (IsPatternOf n holds) [] given all is (All-nil (IsPatternOf n holds)) obey;
    differ = is.differ (λ i j d lt low. absurd (omega (arith, low)));
    keeps = λ class f at never. contained n f given all is.more_in never;
    few = omega (arith, is.few, small);
  }

  -- with those of another search
  pub more_gathered : (given all more new : List Pattern) → AreGathered n holds faults given all → AreJoined all more new → All (IsPatternOf n holds) more
      → length all + length more + 64 ≤ 4294967296 → AreGathered n holds faults given new
  more_gathered given all more new is joined obey small = record {
    obey = all_joined (IsPatternOf n holds) all more new joined is.obey obey;
    differ = joined.differ is.differ;
    keeps = λ class f at never. is.keeps class f at (contained n f all new joined.old_in never);
    few = omega (arith, joined.few, small);
  }

-- ---- kept

contains_map : (g : ℕ → ℕ) (xs : List ℕ) (x : ℕ) → Contains xs x → Contains (map g xs) (g x)
contains_map g [] x c = absurd (contains_nil x c)
contains_map g (y ∷ ys) x c = elim (contains_cases y x ys c) [
  | inl same ↦ subst (λ z. Contains (g y ∷ map g ys) (g z)) same (contains_head (g y) (map g ys))
  | inr later ↦ contains_tail (g y) (g x) (map g ys) (contains_map g ys x later)
]

-- of those that are kept no two are equal if no two of all are
pub kept_pairs : {X : Type 0} (R : X → X → Type 0) (marked : ℕ → Bool) (k : ℕ) (xs : List X) → AllPairs R xs → AllPairs R (kept_from marked k xs)
kept_pairs R marked k [] h = h
kept_pairs R marked k (x ∷ xs) h =
    let rest = kept_pairs R marked (suc k) xs (λ i j d lt low. h (suc i) (suc j) d (omega (arith, lt)) (omega (arith, low))) in
    let first : All (R x) xs = (λ i d low. h 0 (suc i) d (omega arith) (omega (arith, low))) in
    elim (marked k) as (λ (b : Bool). AllPairs R (cond b (x ∷ kept_from marked (suc k) xs) (kept_from marked (suc k) xs))) [
      | true ↦ AllPairs-cons R x (kept_from marked (suc k) xs) (kept_all (R x) marked (suc k) xs first) rest
      | false ↦ rest
    ]

module _ (n : Netlist) (old : List Pattern) (most : ℕ) (faults : List Fault) (marks : List Bool) (are : AreNeededMarks n old most faults marks) where
  abbrev marked : ℕ → Bool
  marked = λ i. get_or marks i false

  abbrev left : List Pattern
  left = kept_from marked 0 old

  -- a marked pattern detects at its new place what it detected
  still_detects : (f : Fault) (place : ℕ) (point : Point) → marked place ≡ true → IsDetectedAt n old f place point → IsDetectedAt n left f (new_place marked place) point
  still_detects f place point mark d =
      let same : place ≡ 0 + place = omega arith in
      record { pattern = d.pattern; at = kept_at marked 0 old place d.pattern d.at (subst (λ i. marked i ≡ true) same mark); detects = d.detects }

  -- The last pattern that detects a fault is among the last so many: so if none that is kept detects it none does. From the last place on.
  none_from : 1 ≤ most → (f : Fault) → Contains faults f → IsNeverDetected n left f → (rest place : ℕ) → length old ≤ place + rest → (point : Point) → ¬ IsDetectedAt n old f place point
  none_from some f within never zero place low point d =
      let lt = slice_get_within old place d.pattern d.at in
      absurd (omega (arith, lt, low))
  none_from some f within never (suc rest) place low point d =
      let last : IsAmongLast n old most f place = record {
        here = (point, d);
        later = [];
        fewer = omega (arith, some);
        all = λ other lt seen. absurd (none_from some f within never rest other (omega (arith, lt, low)) seen.0 seen.1);
      } in
      never (new_place marked place) point (still_detects f place point ((are.exactly place).1 (f, within, last)) d)

  pub kept_loses_none : 1 ≤ most → LosesNone n faults old left
  kept_loses_none some class f at never place point d = none_from some f (contains_at faults class f at) never (length old) place (omega arith) point d

  -- places keep their order
  before : (place other q : ℕ) → marked other ≡ true → new_place marked other ≡ q → new_place marked place < q → place < other
  before place other q mark new lt = elim (cases_order place other) [
    | inl same ↦ (let e : new_place marked place ≡ new_place marked other = subst (λ i. new_place marked place ≡ new_place marked i) same refl in absurd (omega (arith, e, new, lt)))
    | inr o ↦ elim o [
      | inl lower ↦ lower
      | inr higher ↦ (let up = rises marked other place higher mark in absurd (omega (arith, up, new, lt)))
    ]
  ]

  still_among : (f : Fault) (place : ℕ) → marked place ≡ true → IsAmongLast n old most f place → IsAmongLast n left most f (new_place marked place)
  still_among f place mark last = record {
    here = (last.here.0, still_detects f place last.here.0 mark last.here.1);
    later = map (new_place marked) last.later;
    fewer = omega (arith, last.fewer, length-map last.later (new_place marked));
    all = λ other lt seen.
        let s = source marked 0 old other seen.1.pattern seen.1.at in
        let start : 0 + s.place ≡ s.place = omega arith in
        let up = before place s.place other (subst (λ i. marked i ≡ true) start s.mark) s.new lt in
        let c = last.all s.place up (seen.0, record { pattern = seen.1.pattern; at = s.at; detects = seen.1.detects }) in
        subst (λ i. Contains (map (new_place marked) last.later) i) s.new (contains_map (new_place marked) last.later s.place c);
  }

  -- each pattern that is kept is needed among those that are kept
  pub still_needed : (place : ℕ) → place < length left → IsNeededFor n left most faults place
  still_needed place lt =
      let none : Pattern = record { inputs = []; cells = [] } in
      let s = source marked 0 old place (get_or left place none) (slice_get-get_or left place none lt) in
      let start : 0 + s.place ≡ s.place = omega arith in
      let mark : marked s.place ≡ true = subst (λ i. marked i ≡ true) start s.mark in
      let by = (are.exactly s.place).0 mark in
      (by.0, by.1, subst (λ i. IsAmongLast n left most by.0 i) s.new (still_among by.0 s.place mark by.2))

-- ---- told

module _ (n : Netlist) (kept : List Pattern) where
  finished_by : (f : Fault) (l : Option (ℕ × Point)) (v : Verdict) → LastDetected n kept f l → IsFinished n kept f v (told_verdict l v)
  finished_by f None v never = inr (refl, never)
  finished_by f (Some l) v last = inl (l.0, l.1, refl, last)

  told_by : (f : Fault) (l : Option (ℕ × Point)) (v : Verdict) → LastDetected n kept f l → ¬ IsNeverDetected n kept f → IsLastTold n kept f (told_verdict l v)
  told_by f None v never seen = absurd (seen never)
  told_by f (Some l) v last seen = (l.0, l.1, refl, last)

-- ---- chosen

pub chosen_often : (n : Netlist) (holds : Holds) (times : ℕ) (faults : List Fault) (given gathered : List Pattern) (marks : List Bool) (last : List (Option (ℕ × Point))) (old new : List Verdict)
    → 1 ≤ times → AreGathered n holds faults given gathered → AreNeededMarks n gathered times faults marks
    → AllZip (LastDetected n (kept_from (λ i. get_or marks i false) 0 gathered)) faults last → AreTold last old new → length old ≡ length faults
    → AreChosen n holds times faults given old (kept_from (λ i. get_or marks i false) 0 gathered) new
chosen_often n holds times faults given gathered marks last old new some is are tells told size =
    let marked : ℕ → Bool = λ i. get_or marks i false in
    let kept = kept_from marked 0 gathered in
    record {
      obey = kept_all (IsPatternOf n holds) marked 0 gathered is.obey;
      few = omega (arith, kept_few marked 0 gathered, is.few);
      needed = record {
        each = still_needed n gathered times faults marks are;
        differ = λ more. kept_pairs (λ (p q : Pattern). p ≢ q) marked 0 gathered is.differ;
      };
      count = told.size;
      each = λ class f at.
          let lt : class < length old = omega (arith, slice_get_within faults class f at, size) in
          subst (IsFinished n kept f (verdict_at old class)) (sym (told.each class lt))
          (finished_by n kept f (get_or last class None) (verdict_at old class) (told_of (LastDetected n kept) faults last class f tells at));
      detected = λ class f at place point d.
          let lt : class < length old = omega (arith, slice_get_within faults class f at, size) in
          subst (IsLastTold n kept f) (sym (told.each class lt))
          (told_by n kept f (get_or last class None) (verdict_at old class) (told_of (LastDetected n kept) faults last class f tells at)
          (λ never. is.keeps class f at (kept_loses_none n gathered times faults marks are some class f at never) place point d));
    }

last_among : (n : Netlist) (patterns : List Pattern) (f : Fault) (place : ℕ) (point : Point) → IsLastDetected n patterns f place point → IsAmongLast n patterns 1 f place
last_among n patterns f place point last = record {
  here = (point, last.here);
  later = [];
  fewer = omega arith;
  all = λ other lt seen. absurd (last.last other seen.0 lt seen.1);
}

pub chosen_once : (n : Netlist) (holds : Holds) (faults : List Fault) (given fewer kept : List Pattern) (old new : List Verdict)
    → length given + 64 ≤ 4294967296 → IsNoWorse n holds faults given fewer → AreFinished n faults fewer old kept new → AreChosen n holds 1 faults given old kept new
chosen_once n holds faults given fewer kept old new small is done = record {
  obey =
      let P : List Pattern → Type 0 = λ ps. All (IsPatternOf n holds) ps in
      subst P (sym done.are_kept.are) (kept_all (IsPatternOf n holds) done.are_kept.needed 0 fewer is.obey);
  few =
      let P : List Pattern → Type 0 = λ ps. length ps < 4294967296 in
      subst P (sym done.are_kept.are) (omega (arith, kept_few done.are_kept.needed 0 fewer, is.few, small));
  needed = record {
    each = λ place lt. let need = done.needed place lt in (need.0, need.1, last_among n kept need.0 place need.2.0 need.2.1);
    differ = λ more. absurd (omega (arith, more));
  };
  count = done.count;
  each = done.each;
  detected = λ class f at place point d.
      let again = seen_again n holds 0 false faults given fewer is class f at (place, point, d) in
      done.detected class f at again.0 again.1 again.2;
}
