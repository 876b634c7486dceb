-- Where faults are last detected, when the patterns in front are others.
use Rattle.std.proofs.Common.{◌≡◌, ℕ, zero, suc, ◌+◌, ◌-◌, ◌<◌, ◌≤◌, inl, inr, Bool, true, false, true≢false, cond, List, [], ◌∷◌, ◌++◌, length, get_or, map, drop, Option, Some, None, refl, sym, ap, ◌∙◌, arith}
use Rattle.std.proofs.lemmas.List.{append_assoc, append-nil, drop_all, drop_more}
use Rattle.std.specs.Prelude.{nat_le}
use Rattle.std.specs.List.{AllZip}
use Rattle.std.proofs.lemmas.Bool.Decides.{leb_tells}
use Rattle.std.proofs.lemmas.Bool.{cases_lt}
use Rattle.std.proofs.lemmas.Option.{slice_get_within}
use Rattle.statement.specs.declared.lines.Fault.{Fault}
use Rattle.statement.specs.declared.lines.Point.{Point}
use Rattle.statement.specs.Netlists.{Netlist}
use Rattle.statement.specs.Patterns.{Pattern, IsDetectedAt, IsLastDetected}
use Rattle.word_sim.specs.Hits.{IsNeverDetected, LastDetected}
use Rattle.word_sim.specs.Never.{unmarked}
use Rattle.fewer_patterns.specs.inner.Enough.{AllTold, is_settled, is_told}
use Rattle.fewer_patterns.specs.inner.Joined.{first_told, joined, others_told, unsettled}
use Rattle.fewer_patterns.proofs.Seeing.{behind, in_left, left_place, right_place}

abbrev pub Told : Type 0
Told = Option (ℕ × Point)

-- ---- one fault

module _ (n : Netlist) (front new tail : List Pattern) (f : Fault) where
  lifted : (place : ℕ) (p : Point) → IsDetectedAt n front f place p → IsDetectedAt n (front ++ tail) f place p
  lifted place p d = record { pattern = d.pattern; at = left_place front tail place d.pattern d.at; detects = d.detects }

  lowered : (place : ℕ) (p : Point) → place < length front → IsDetectedAt n (front ++ tail) f place p → IsDetectedAt n front f place p
  lowered place p lt d = record { pattern = d.pattern; at = in_left front tail place d.pattern lt d.at; detects = d.detects }

  pub moved : (k i j : ℕ) (p : Point) → i ≡ length front + k → j ≡ length new + k → IsDetectedAt n (front ++ tail) f i p → IsDetectedAt n (new ++ tail) f j p
  moved k i j p is at d = record { pattern = d.pattern; at = right_place new tail k j d.pattern at (behind front tail k i d.pattern is d.at); detects = d.detects }

  in_tail : (k i : ℕ) (p : Point) → i ≡ length front + k → IsDetectedAt n tail f k p → IsDetectedAt n (front ++ tail) f i p
  in_tail k i p is d = record { pattern = d.pattern; at = right_place front tail k i d.pattern is d.at; detects = d.detects }

  of_tail : (k i : ℕ) (p : Point) → i ≡ length front + k → IsDetectedAt n (front ++ tail) f i p → IsDetectedAt n tail f k p
  of_tail k i p is d = record { pattern = d.pattern; at = behind front tail k i d.pattern is d.at; detects = d.detects }

  pub never_behind : IsNeverDetected n (front ++ tail) f → IsNeverDetected n tail f
  never_behind never k p d = never (length front + k) p (in_tail k (length front + k) p refl d)

  pub last_before : (place : ℕ) (point : Point) → place < length front → IsLastDetected n (front ++ tail) f place point → IsLastDetected n front f place point
  last_before place point lt is = record {
    here = lowered place point lt is.here;
    last = λ later p more d. is.last later p more (lifted later p d);
    first = λ p sooner d. is.first p sooner (lifted place p d);
  }

  -- no pattern of the tail detects what one in front is the last to detect
  pub none_behind : (place : ℕ) (point : Point) → place < length front → IsLastDetected n (front ++ tail) f place point → IsNeverDetected n tail f
  none_behind place point lt is k p d = is.last (length front + k) p (omega (arith, lt)) (in_tail k (length front + k) p refl d)

  not_after : IsNeverDetected n tail f → (place : ℕ) (p : Point) → length front ≤ place → ¬ IsDetectedAt n (front ++ tail) f place p
  not_after never place p le d = never (place - length front) p (of_tail (place - length front) place p (omega (arith, le)) d)

  never_at_all : IsNeverDetected n front f → IsNeverDetected n tail f → IsNeverDetected n (front ++ tail) f
  never_at_all never none place p d = elim (cases_lt place (length front)) [
    | inl lt ↦ never place p (lowered place p lt d)
    | inr le ↦ not_after none place p (omega (arith, le)) d
  ]

  last_of_all : (place : ℕ) (point : Point) → IsLastDetected n front f place point → IsNeverDetected n tail f → IsLastDetected n (front ++ tail) f place point
  last_of_all place point is none =
      let lt : place < length front = slice_get_within front place is.here.pattern is.here.at in
      record {
        here = lifted place point is.here;
        last = λ later p more d. elim (cases_lt later (length front)) [
          | inl before ↦ is.last later p more (lowered later p before d)
          | inr le ↦ not_after none later p (omega (arith, le)) d
        ];
        first = λ p sooner d. is.first p sooner (lowered place p lt d);
      }

  -- what patterns in front tell is told of all where the tail detects nothing
  pub told_of_all : (o : Told) → LastDetected n front f o → IsNeverDetected n tail f → LastDetected n (front ++ tail) f o
  told_of_all None never none = never_at_all never none
  told_of_all (Some one) is none = last_of_all one.0 one.1 is none

-- a pattern of the tail is still the last, so many places before
module _ (n : Netlist) (front new tail : List Pattern) (less : ℕ) (size : less + length new ≡ length front) (f : Fault) where
  still_last : (place : ℕ) (point : Point) → length front ≤ place → IsLastDetected n (front ++ tail) f place point → IsLastDetected n (new ++ tail) f (place - less) point
  still_last place point le is = record {
    here = moved n front new tail f (place - length front) place (place - less) point (omega (arith, le)) (omega (arith, le, size)) is.here;
    last = λ later p more d. is.last (later + less) p (omega (arith, more))
        (moved n new front tail f (later - length new) later (later + less) p (omega (arith, more, le, size)) (omega (arith, more, le, size)) d);
    first = λ p sooner d. is.first p sooner
        (moved n new front tail f (place - length front) (place - less) place p (omega (arith, le, size)) (omega (arith, le)) d);
  }

-- ---- all that are left to the patterns in front

module _ (P : Fault → Told → Type 0) where
  zip_cons : (m : Bool) (ms : List Bool) (f : Fault) (fs : List Fault) (o : Told) (os : List Told) → (m ≡ false → P f o) → AllZip P (unmarked ms fs) os
      → AllZip P (unmarked (m ∷ ms) (f ∷ fs)) (cond m os (o ∷ os))
  zip_cons true ms f fs o os here others = others
  zip_cons false ms f fs o os here others = (here refl, others)

told_cons : (m : Bool) (o : Told) (os : List Told) → (m ≡ false → is_told o ≡ true) → AllTold os → AllTold (cond m os (o ∷ os))
told_cons true o os here others k lt = others k lt
told_cons false o os here others zero lt = here refl
told_cons false o os here others (suc k) lt = others k (omega (arith, lt))

unsettled_told : (start : ℕ) (o : Told) → is_settled start o ≡ false → is_told o ≡ true
unsettled_told start None is = absurd (true≢false is)
unsettled_told start (Some one) is = refl

pub all_told : (start : ℕ) (last : List Told) → AllTold (unsettled start last)
all_told start [] k lt = absurd (omega (arith, lt))
all_told start (o ∷ os) k lt = told_cons (is_settled start o) o (unsettled start os) (unsettled_told start o) (all_told start os) k lt

module _ (n : Netlist) (front tail : List Pattern) where
  one_left : (f : Fault) (o : Told) → LastDetected n (front ++ tail) f o → is_settled (length front) o ≡ false → LastDetected n front f o
  one_left f None is unsettled = absurd (true≢false unsettled)
  one_left f (Some one) is unsettled =
      let before : one.0 < length front = grind (arith, leb_tells (length front) one.0) in
      last_before n front front tail f one.0 one.1 before is

  pub all_left : (faults : List Fault) (last : List Told) → AllZip (LastDetected n (front ++ tail)) faults last
      → AllZip (LastDetected n front) (unmarked (map (is_settled (length front)) last) faults) (unsettled (length front) last)
  all_left [] [] is = tt
  all_left [] (o ∷ os) is = absurd is
  all_left (f ∷ fs) [] is = absurd is
  all_left (f ∷ fs) (o ∷ os) is =
      zip_cons (LastDetected n front) (is_settled (length front) o) (map (is_settled (length front)) os) f fs o (unsettled (length front) os) (one_left f o is.0)
      (all_left fs os is.1)

-- ---- all that is told, joined

module _ (n : Netlist) (front new tail : List Pattern) (less : ℕ) (size : less + length new ≡ length front) where
  join_some : (m : Bool) (ms : List Bool) (f : Fault) (fs : List Fault) (place : ℕ) (point : Point) (fronts : List Told) (rest : List Told → List Told)
      → nat_le (length front) place ≡ m → IsLastDetected n (front ++ tail) f place point → AllZip (LastDetected n new) (unmarked (m ∷ ms) (f ∷ fs)) fronts
      → ((os : List Told) → AllZip (LastDetected n new) (unmarked ms fs) os → AllZip (LastDetected n (new ++ tail)) fs (rest os))
      → AllZip (LastDetected n (new ++ tail)) (f ∷ fs) (cond m (Some (place - less, point) ∷ rest fronts) (first_told fronts ∷ rest (others_told fronts)))
  join_some true ms f fs place point fronts rest e is those others =
      let there : length front ≤ place = grind (arith, leb_tells (length front) place) in
      (still_last n front new tail less size f place point there is, others fronts those)
  join_some false ms f fs place point [] rest e is those others = absurd those
  join_some false ms f fs place point (o ∷ os) rest e is those others =
      let before : place < length front = grind (arith, leb_tells (length front) place) in
      (told_of_all n new new tail f o those.0 (none_behind n front front tail f place point before is), others os those.1)

  pub all_joined : (faults : List Fault) (last fronts nevers : List Told) → AllZip (LastDetected n (front ++ tail)) faults last
      → AllZip (LastDetected n new) (unmarked (map (is_settled (length front)) last) faults) fronts → AllZip (LastDetected n new) (unmarked (map is_told last) faults) nevers
      → AllZip (LastDetected n (new ++ tail)) faults (joined (length front) less last fronts nevers)
  all_joined [] [] fronts nevers is those others = tt
  all_joined [] (o ∷ os) fronts nevers is those others = absurd is
  all_joined (f ∷ fs) [] fronts nevers is those others = absurd is
  all_joined (f ∷ fs) (None ∷ os) fronts [] is those others = absurd others
  all_joined (f ∷ fs) (None ∷ os) fronts (o ∷ nevers) is those others =
      (told_of_all n new new tail f o others.0 (never_behind n front front tail f is.0), all_joined fs os fronts nevers is.1 those others.1)
  all_joined (f ∷ fs) (Some one ∷ os) fronts nevers is those others =
      join_some (nat_le (length front) one.0) (map (is_settled (length front)) os) f fs one.0 one.1 fronts (λ these. joined (length front) less os these nevers) refl is.0 those
      (λ these are. all_joined fs os these nevers is.1 are others)

-- ---- loops

pub others_next : (told : List Told) (next : ℕ) → drop (next + 1) told ≡ others_told (drop next told)
others_next told next = elim (cases_lt next (length told)) [
  | inl lt ↦ sym (ap (λ (ls : List Told). others_told ls) (drop_more told next None lt))
  | inr le ↦ drop_all (next + 1) told (omega (arith, le)) ∙ sym (ap (λ (ls : List Told). others_told ls) (drop_all next told le))
]

unsettled_cons : (start : ℕ) (l : Told) (ls : List Told) → unsettled start (l ∷ ls) ≡ unsettled start (l ∷ []) ++ unsettled start ls
unsettled_cons start l ls = by (is_settled start l) where
  by : (m : Bool) → cond m (unsettled start ls) (l ∷ unsettled start ls) ≡ cond m [] (l ∷ []) ++ unsettled start ls
  by true = refl
  by false = refl

pub unsettled_more : (start : ℕ) (last : List Told) (k : ℕ) (old new : List Told) → k < length last → old ++ unsettled start (drop k last) ≡ unsettled start last
    → new ≡ old ++ unsettled start (get_or last k None ∷ []) → new ++ unsettled start (drop (k + 1) last) ≡ unsettled start last
unsettled_more start last k old new lt before added =
    let one = unsettled start (get_or last k None ∷ []) in
    let rest = unsettled start (drop (k + 1) last) in
    let both : unsettled start (drop k last) ≡ one ++ rest =
    ap (λ ls. unsettled start ls) (drop_more last k None lt) ∙ unsettled_cons start (get_or last k None) (drop (k + 1) last) in
    ap (λ ls. ls ++ rest) added ∙ (append_assoc old one rest ∙ (ap (λ ls. old ++ ls) (sym both) ∙ before))

pub unsettled_all : (start : ℕ) (last : List Told) (k : ℕ) (told : List Told) → length last ≤ k → told ++ unsettled start (drop k last) ≡ unsettled start last → told ≡ unsettled start last
unsettled_all start last k told end is = sym (append-nil told) ∙ (ap (λ ls. told ++ unsettled start ls) (sym (drop_all k last end)) ∙ is)

module _ (start less : ℕ) (last front never : List Told) where
  pub joined_more : (k i j more some : ℕ) (one : Told) (told : List Told) → k < length last
      → ((ls : List Told) → joined start less (get_or last k None ∷ ls) (drop i front) (drop j never) ≡ one ∷ joined start less ls (drop more front) (drop some never))
      → told ++ joined start less (drop k last) (drop i front) (drop j never) ≡ joined start less last front never
      → (told ++ one ∷ []) ++ joined start less (drop (k + 1) last) (drop more front) (drop some never) ≡ joined start less last front never
  joined_more k i j more some one told lt tells before =
      let rest = joined start less (drop (k + 1) last) (drop more front) (drop some never) in
      append_assoc told (one ∷ []) rest
      ∙ (ap (λ (os : List Told). told ++ os) (sym (tells (drop (k + 1) last)))
      ∙ (ap (λ (ls : List Told). told ++ joined start less ls (drop i front) (drop j never)) (sym (drop_more last k None lt)) ∙ before))

  pub joined_all : (k i j : ℕ) (told : List Told) → length last ≤ k → told ++ joined start less (drop k last) (drop i front) (drop j never) ≡ joined start less last front never
      → told ≡ joined start less last front never
  joined_all k i j told end is =
      sym (append-nil told) ∙ (ap (λ (ls : List Told). told ++ joined start less ls (drop i front) (drop j never)) (sym (drop_all k last end)) ∙ is)
