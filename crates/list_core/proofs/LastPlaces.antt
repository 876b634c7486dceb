-- Which patterns are the last to detect some fault, and what patterns at marked places detect once they alone are left.
use Rattle.std.proofs.Common.{zero, suc, ◌≡◌, ◌⊎◌, inl, inr, ℕ, ◌+◌, ◌<◌, ◌==◌, ◌||◌, Bool, true, false, List, [], ◌∷◌, length, Some, None, Option, refl, sym, ap, subst, arith}
use Rattle.std.specs.List.{AllZip, Contains, slice_get}
use Rattle.std.proofs.lemmas.Bool.Decides.{nat_tests}
use Rattle.std.proofs.lemmas.Option.{slice_get_read}
use Rattle.statement.specs.declared.lines.Fault.{Fault}
use Rattle.statement.specs.declared.lines.Point.{Point}
use Rattle.statement.specs.Netlists.{Netlist}
use Rattle.netlist.proofs.Lists.{contains_head, contains_tail}
use Rattle.statement.specs.Patterns.{Pattern, IsDetectedAt, IsLastDetected}
use Rattle.word_sim.specs.Hits.{IsNeverDetected}
use Rattle.list_core.specs.Kept.{is_last_at, kept_from, new_place}
use Rattle.list_core.specs.inner.Marks.{last_at}
use Rattle.list_core.proofs.KeepLemmas.{kept_at, source, rises}

pub some_same : {X : Type 0} (x y : X) → Some x ≡ Some y → x ≡ y
some_same x y e = cc

or_left : (a b : Bool) → a ≡ true → (a || b) ≡ true
or_left true b e = refl
or_left false b e = cc

or_right : (a b : Bool) → b ≡ true → (a || b) ≡ true
or_right true b e = refl
or_right false b e = e

or_cases : (a b : Bool) → (a || b) ≡ true → (a ≡ true) ⊎ (b ≡ true)
or_cases true b e = inl refl
or_cases false b e = inr e

same_number : (a b : ℕ) → (a == b) ≡ true → a ≡ b
same_number a b e = grind (arith, nat_tests)

number_same : (a b : ℕ) → a ≡ b → (a == b) ≡ true
number_same a b e = grind (arith, nat_tests)

-- a marked place is the last one of some fault
pub marked_by : (R : Fault → Option (ℕ × Point) → Type 0) (fs : List Fault) (ls : List (Option (ℕ × Point))) (k : ℕ)
    → AllZip R fs ls → is_last_at ls k ≡ true → (f : Fault) × Contains fs f × ((o : Point) × R f (Some (k, o)))
marked_by R [] [] k are e = cc
marked_by R [] (l ∷ ls) k are e = elim are [ ]
marked_by R (f ∷ fs) [] k are e = elim are [ ]
marked_by R (f ∷ fs) (None ∷ ls) k are e =
    let rest = marked_by R fs ls k are.1 e in (rest.0, contains_tail f rest.0 fs rest.1, rest.2)
marked_by R (f ∷ fs) (Some l ∷ ls) k are e =
    by_case (or_cases (l.0 == k) (is_last_at ls k) e) (λ there. marked_by R fs ls k are.1 there)
  where
    by_case : ((l.0 == k) ≡ true) ⊎ (is_last_at ls k ≡ true) → (is_last_at ls k ≡ true → (g : Fault) × Contains fs g × ((o : Point) × R g (Some (k, o))))
        → (g : Fault) × Contains (f ∷ fs) g × ((o : Point) × R g (Some (k, o)))
    by_case (inl here) rest = (f, contains_head f fs, (l.1, (let P : ℕ → Type 0 = λ i. R f (Some (i, l.1)) in subst P (same_number l.0 k here) are.0)))
    by_case (inr there) rest = (let r = rest there in (r.0, contains_tail f r.0 fs r.1, r.2))

-- the place where some class is last detected is marked
pub some_marked : (ls : List (Option (ℕ × Point))) (c : ℕ) (l : ℕ × Point) → last_at ls c ≡ Some l → is_last_at ls l.0 ≡ true
some_marked [] c l e = cc
some_marked (None ∷ ls) zero l e = cc
some_marked (Some m ∷ ls) zero l e =
    let same : m ≡ l = some_same m l e in
    or_left (m.0 == l.0) (is_last_at ls l.0) (number_same m.0 l.0 (ap (λ (x : ℕ × Point). x.0) same))
some_marked (None ∷ ls) (suc c) l e = some_marked ls c l e
some_marked (Some m ∷ ls) (suc c) l e = or_right (m.0 == l.0) (is_last_at ls l.0) (some_marked ls c l e)

-- what is told of the fault at a place
pub told_of : (R : Fault → Option (ℕ × Point) → Type 0) (fs : List Fault) (ls : List (Option (ℕ × Point))) (c : ℕ) (f : Fault)
    → AllZip R fs ls → slice_get fs c ≡ Some f → R f (last_at ls c)
told_of R [] [] c f are e = cc
told_of R [] (l ∷ ls) c f are e = elim are [ ]
told_of R (g ∷ fs) [] c f are e = elim are [ ]
told_of R (g ∷ fs) (l ∷ ls) zero f are e = (let P : Fault → Type 0 = λ h. R h l in subst P (some_same g f e) are.0)
told_of R (g ∷ fs) (l ∷ ls) (suc c) f are e = told_of R fs ls c f are.1 e

-- a place that is the last one of some fault is marked, where what is told of a fault names no other place
pub marked_where : (R : Fault → Option (ℕ × Point) → Type 0) (fs : List Fault) (ls : List (Option (ℕ × Point))) (k : ℕ) → AllZip R fs ls
    → ((f : Fault) (l : Option (ℕ × Point)) (o : Point) → R f l → R f (Some (k, o)) → (p : Point) × (l ≡ Some (k, p)))
    → (f : Fault) × Contains fs f × ((o : Point) × R f (Some (k, o))) → is_last_at ls k ≡ true
marked_where R fs ls k are alone need =
    let f = need.0 in
    let c = need.1.0 in
    let at : slice_get fs c ≡ Some f = slice_get_read fs (length fs) c f refl need.1.1 (sym need.1.2) in
    let told = alone f (last_at ls c) need.2.0 (told_of R fs ls c f are at) need.2.1 in
    some_marked ls c (k, told.0) told.1

-- ---- among the kept patterns

module _ (n : Netlist) (ps : List Pattern) (marked : ℕ → Bool) where
  -- what is detected among the patterns at marked places was detected at the place from which the pattern comes
  earlier : (f : Fault) (q : ℕ) (o : Point) → IsDetectedAt n (kept_from marked 0 ps) f q o
      → (k : ℕ) × (marked k ≡ true) × (new_place marked k ≡ q) × IsDetectedAt n ps f k o
  earlier f q o d =
      let s = source marked 0 ps q d.pattern d.at in
      let w : 0 + s.place ≡ s.place = omega arith in
      let mark : marked s.place ≡ true = (let P : ℕ → Type 0 = λ i. marked i ≡ true in subst P w s.mark) in
      (s.place, mark, s.new, record { pattern = d.pattern; at = s.at; detects = d.detects })

  -- and the other way, at a marked place
  later : (f : Fault) (k : ℕ) (o : Point) → marked k ≡ true → IsDetectedAt n ps f k o → IsDetectedAt n (kept_from marked 0 ps) f (new_place marked k) o
  later f k o mark d =
      let w : k ≡ 0 + k = omega arith in
      let here : marked (0 + k) ≡ true = (let P : ℕ → Type 0 = λ i. marked i ≡ true in subst P w mark) in
      record { pattern = d.pattern; at = kept_at marked 0 ps k d.pattern d.at here; detects = d.detects }

  pub never_kept : (f : Fault) → IsNeverDetected n ps f → IsNeverDetected n (kept_from marked 0 ps) f
  never_kept f never q o d = let e = earlier f q o d in never e.0 o e.3

  pub last_kept : (f : Fault) (k : ℕ) (o : Point) → marked k ≡ true → IsLastDetected n ps f k o
      → IsLastDetected n (kept_from marked 0 ps) f (new_place marked k) o
  last_kept f k o mark last = record {
    here = later f k o mark last.here;
    last = λ q p lt d. (
        let e = earlier f q p d in
        let up : k < e.0 = rises_back k e.0 (e.1) (omega (arith, lt, e.2)) in
        last.last e.0 p up e.3
        );
    first = λ p before d. (
        let e = earlier f (new_place marked k) p d in
        let same : e.0 ≡ k = one_place e.0 k e.1 mark e.2 in
        last.first p before (let P : ℕ → Type 0 = λ i. IsDetectedAt n ps f i p in subst P same e.3)
        );
  }
    where
      three : (i j : ℕ) → (i < j) ⊎ ((i ≡ j) ⊎ (j < i))
      three i j = grind arith

      rises_back : (i j : ℕ) → marked j ≡ true → new_place marked i < new_place marked j → i < j
      rises_back i j mj lt = elim (three i j) [
        | inl less ↦ less
        | inr r ↦ elim r [
          | inl e ↦ (let same : new_place marked i ≡ new_place marked j = ap (new_place marked) e in absurd (omega (arith, lt, same)))
          | inr more ↦ (let up = rises marked j i more mj in absurd (omega (arith, lt, up)))
        ]
      ]

      one_place : (i j : ℕ) → marked i ≡ true → marked j ≡ true → new_place marked i ≡ new_place marked j → i ≡ j
      one_place i j mi mj e = elim (three i j) [
        | inl less ↦ (let up = rises marked i j less mi in absurd (omega (arith, e, up)))
        | inr r ↦ elim r [
          | inl same ↦ same
          | inr more ↦ (let up = rises marked j i more mj in absurd (omega (arith, e, up)))
        ]
      ]
