-- What is told is seen, and what is settled needs not be seen by the patterns in front.
use Rattle.std.proofs.Common.{◌≡◌, ℕ, zero, suc, ◌+◌, ◌<◌, ◌≤◌, ◌⊎◌, inl, inr, Bool, true, false, true≢false, List, [], ◌∷◌, ◌++◌, length, map, Option, Some, None, refl, sym, ap, ◌∙◌, arith}
use Rattle.std.specs.Prelude.{nat_le}
use Rattle.std.specs.List.{All, AllZip, slice_get}
use Rattle.std.proofs.lemmas.Bool.Decides.{leb_tells}
use Rattle.statement.specs.declared.lines.Fault.{Fault}
use Rattle.statement.specs.declared.lines.Point.{Point}
use Rattle.statement.specs.Netlists.{Netlist}
use Rattle.statement.specs.Patterns.{Pattern, IsDetectedAt}
use Rattle.word_sim.specs.Hits.{LastDetected}
use Rattle.word_sim.specs.Never.{unmarked}
use Rattle.fewer_patterns.specs.Fewer.{IsSeenBy, Keeps}
use Rattle.fewer_patterns.specs.inner.Enough.{AllTold, is_settled, is_told}

-- ---- two lists of patterns, one behind the other

pub behind : {X : Type 0} (xs ys : List X) (k i : ℕ) (x : X) → i ≡ length xs + k → slice_get (xs ++ ys) i ≡ Some x → slice_get ys k ≡ Some x
behind [] ys k i x is e = (let same : i ≡ k = omega arith in ap (λ j. slice_get ys j) (sym same) ∙ e)
behind (a ∷ xs) ys k zero x is e = absurd (omega arith)
behind (a ∷ xs) ys k (suc i) x is e = behind xs ys k i x (omega arith) e

pub left_place : {X : Type 0} (xs ys : List X) (k : ℕ) (x : X) → slice_get xs k ≡ Some x → slice_get (xs ++ ys) k ≡ Some x
left_place [] ys k x e = cc
left_place (a ∷ xs) ys zero x e = e
left_place (a ∷ xs) ys (suc k) x e = left_place xs ys k x e

pub right_place : {X : Type 0} (xs ys : List X) (k i : ℕ) (x : X) → i ≡ length xs + k → slice_get ys k ≡ Some x → slice_get (xs ++ ys) i ≡ Some x
right_place [] ys k i x is e = (let same : i ≡ k = omega arith in ap (λ j. slice_get ys j) same ∙ e)
right_place (a ∷ xs) ys k zero x is e = absurd (omega arith)
right_place (a ∷ xs) ys k (suc i) x is e = right_place xs ys k i x (omega arith) e

pub in_left : {X : Type 0} (xs ys : List X) (k : ℕ) (x : X) → k < length xs → slice_get (xs ++ ys) k ≡ Some x → slice_get xs k ≡ Some x
in_left [] ys k x lt e = absurd (omega arith)
in_left (a ∷ xs) ys zero x lt e = e
in_left (a ∷ xs) ys (suc k) x lt e = in_left xs ys k x (omega arith) e

in_right : {X : Type 0} (xs ys : List X) (k : ℕ) (x : X) → length xs ≤ k → slice_get (xs ++ ys) k ≡ Some x → (j : ℕ) × (slice_get ys j ≡ Some x)
in_right [] ys k x le e = (k, e)
in_right (a ∷ xs) ys zero x le e = absurd (omega arith)
in_right (a ∷ xs) ys (suc k) x le e = in_right xs ys k x (omega arith) e

module _ (n : Netlist) (front tail : List Pattern) (f : Fault) where
  pub seen_before : IsSeenBy n front f → IsSeenBy n (front ++ tail) f
  seen_before seen =
      let d = seen.2 in
      (seen.0, seen.1, record { pattern = d.pattern; at = left_place front tail seen.0 d.pattern d.at; detects = d.detects })

  pub seen_behind : IsSeenBy n tail f → IsSeenBy n (front ++ tail) f
  seen_behind seen =
      let d = seen.2 in
      (length front + seen.0, seen.1, record { pattern = d.pattern; at = right_place front tail seen.0 (length front + seen.0) d.pattern refl d.at; detects = d.detects })

  pub seen_in_front : (place : ℕ) (point : Point) → place < length front → IsDetectedAt n (front ++ tail) f place point → IsSeenBy n front f
  seen_in_front place point lt d = (place, point, record { pattern = d.pattern; at = in_left front tail place d.pattern lt d.at; detects = d.detects })

  pub seen_in_tail : (place : ℕ) (point : Point) → length front ≤ place → IsDetectedAt n (front ++ tail) f place point → IsSeenBy n tail f
  seen_in_tail place point le d =
      let there = in_right front tail place d.pattern le d.at in
      (there.0, point, record { pattern = d.pattern; at = there.1; detects = d.detects })

-- ---- what is told

module _ (n : Netlist) (patterns : List Pattern) where
  one_seen : (f : Fault) (one : Option (ℕ × Point)) → LastDetected n patterns f one → is_told one ≡ true → IsSeenBy n patterns f
  one_seen f None is told = absurd (true≢false (sym told))
  one_seen f (Some one) is told = (one.0, one.1, is.here)

  pub all_seen : (faults : List Fault) (last : List (Option (ℕ × Point))) → AllZip (LastDetected n patterns) faults last
      → AllTold last → All (IsSeenBy n patterns) faults
  all_seen [] last is told k d lt = absurd (omega arith)
  all_seen (f ∷ fs) [] is told k d lt = absurd is
  all_seen (f ∷ fs) (o ∷ os) is told zero d lt = one_seen f o is.0 (told 0 (omega arith))
  all_seen (f ∷ fs) (o ∷ os) is told (suc k) d lt = all_seen fs os is.1 (λ j within. told (suc j) (omega (arith, within))) k d (omega arith)

  -- each fault has its mark
  pub marks_size : (start : ℕ) (faults : List Fault) (last : List (Option (ℕ × Point))) → AllZip (LastDetected n patterns) faults last
      → length (map (is_settled start) last) ≡ length faults
  marks_size start [] [] is = omega arith
  marks_size start [] (o ∷ os) is = absurd is
  marks_size start (f ∷ fs) [] is = absurd is
  marks_size start (f ∷ fs) (o ∷ os) is = omega (arith, marks_size start fs os is.1)

-- ---- what is settled

-- of those that aren't marked all are, where the first is unless it is marked, and the others are
left_cons : (P : Fault → Type 0) (m : Bool) (ms : List Bool) (f : Fault) (fs : List Fault) → (m ≡ false → P f) → All P (unmarked ms fs) → All P (unmarked (m ∷ ms) (f ∷ fs))
left_cons P true ms f fs here others k d lt = others k d lt
left_cons P false ms f fs here others zero d lt = here refl
left_cons P false ms f fs here others (suc k) d lt = others k d (omega arith)

left_first : (P : Fault → Type 0) (m : Bool) (ms : List Bool) (f : Fault) (fs : List Fault) → All P (unmarked (m ∷ ms) (f ∷ fs)) → m ≡ false → P f
left_first P true ms f fs all is = absurd (true≢false is)
left_first P false ms f fs all is = all 0 f (omega arith)

left_others : (P : Fault → Type 0) (m : Bool) (ms : List Bool) (f : Fault) (fs : List Fault) → All P (unmarked (m ∷ ms) (f ∷ fs)) → All P (unmarked ms fs)
left_others P true ms f fs all k d lt = all k d lt
left_others P false ms f fs all k d lt = all (suc k) d (omega (arith, lt))

module _ (n : Netlist) (front tail : List Pattern) where
  front_seen : (f : Fault) (one : Option (ℕ × Point)) → LastDetected n (front ++ tail) f one → is_settled (length front) one ≡ false → IsSeenBy n front f
  front_seen f None is unsettled = absurd (true≢false unsettled)
  front_seen f (Some one) is unsettled =
      let before : one.0 < length front = grind (arith, leb_tells (length front) one.0) in
      seen_in_front n front tail f one.0 one.1 before is.here

  pub left_seen : (faults : List Fault) (last : List (Option (ℕ × Point))) → AllZip (LastDetected n (front ++ tail)) faults last
      → All (IsSeenBy n front) (unmarked (map (is_settled (length front)) last) faults)
  left_seen [] [] is = λ k d lt. absurd (omega (arith, lt))
  left_seen [] (o ∷ os) is = absurd is
  left_seen (f ∷ fs) [] is = absurd is
  left_seen (f ∷ fs) (o ∷ os) is =
      left_cons (IsSeenBy n front) (is_settled (length front) o) (map (is_settled (length front)) os) f fs (front_seen f o is.0) (left_seen fs os is.1)

  one_kept : (new : List Pattern) (f : Fault) (one : Option (ℕ × Point)) → LastDetected n (front ++ tail) f one → (is_settled (length front) one ≡ false → IsSeenBy n new f)
      → IsSeenBy n (front ++ tail) f → IsSeenBy n (new ++ tail) f
  one_kept new f None is see seen = absurd (is seen.0 seen.1 seen.2)
  one_kept new f (Some one) is see seen = by (leb_tells (length front) one.0) where
    by : ((nat_le (length front) one.0 ≡ true) × (length front ≤ one.0)) ⊎ ((nat_le (length front) one.0 ≡ false) × (one.0 < length front)) → IsSeenBy n (new ++ tail) f
    by (inl there) = seen_behind n new tail f (seen_in_tail n front tail f one.0 one.1 there.1 is.here)
    by (inr before) = seen_before n new tail f (see before.0)

  pub keeps : (new : List Pattern) (faults : List Fault) (last : List (Option (ℕ × Point))) → AllZip (LastDetected n (front ++ tail)) faults last
      → All (IsSeenBy n new) (unmarked (map (is_settled (length front)) last) faults) → Keeps n faults (front ++ tail) (new ++ tail)
  keeps new [] last is see k d lt = absurd (omega (arith, lt))
  keeps new (f ∷ fs) [] is see k d lt = absurd is
  keeps new (f ∷ fs) (o ∷ os) is see zero d lt =
      one_kept new f o is.0 (left_first (IsSeenBy n new) (is_settled (length front) o) (map (is_settled (length front)) os) f fs see)
  keeps new (f ∷ fs) (o ∷ os) is see (suc k) d lt =
      keeps new fs os is.1 (left_others (IsSeenBy n new) (is_settled (length front) o) (map (is_settled (length front)) os) f fs see) k d (omega arith)
