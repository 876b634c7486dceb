-- Classes of which a line says redundant or aborted, and their representatives.
use Rattle.std.proofs.Common.{◌≡◌, ℕ, zero, suc, ◌+◌, ◌<◌, ◌≤◌, ◌==◌, ◌&&◌, ◌||◌, Bool, true, false, cond, List, [], ◌∷◌, ◌++◌, length, get_or, replicate, set, take, take_all, Some, refl, sym, ◌∙◌, ap, ap₂, subst, inl, inr, arith, add-one}
use Rattle.std.specs.List.{slice_get}
use Rattle.std.proofs.lemmas.Bool.{and_from, and_parts, eq-eqb, eqb-true, false≢true, or_cases, or_left, or_right}
use Rattle.std.proofs.lemmas.Bool.Decides.{eqb_tells}
use Rattle.std.proofs.lemmas.List.{append-nil, get_or-set_same, get_or_default, get_or-replicate, get_or-set_other, length-replicate, length-set, length-take-le}
use Rattle.std.proofs.lemmas.Option.{slice_get_within}
use Rattle.statement.specs.declared.lines.Fault.{Fault}
use Rattle.statement.specs.Reports.{Line}
use Rattle.fault_collapse.specs.Numbers.{Classes}
use Rattle.run_report.specs.Outcomes.{has_evidence, is_left, left_from}
use Rattle.run_report.specs.inner.Marks.{AreMarked, marked}

-- ---- one line more

or_swap : (a b c : Bool) → (a || (b || c)) ≡ (b || (a || c))
or_swap false b c = refl
or_swap true false c = refl
or_swap true true c = refl

left_next : (cs : List ℕ) (ls : List Line) (k c : ℕ) (l : Line) (class : ℕ) → slice_get cs k ≡ Some c → slice_get ls k ≡ Some l
    → is_left (take (suc k) cs) (take (suc k) ls) class ≡ (((c == class) && has_evidence l.outcome) || is_left (take k cs) (take k ls) class)
left_next [] ls k c l class p q = cc
left_next (x ∷ cs) [] k c l class p q = cc
left_next (x ∷ cs) (y ∷ ls) zero c l class p q =
    let e : x ≡ c = cc in
    let f : y ≡ l = cc in
    ap₂ (λ u v. ((u == class) && has_evidence v.outcome) || false) e f
left_next (x ∷ cs) (y ∷ ls) (suc k) c l class p q =
    ap (λ b. ((x == class) && has_evidence y.outcome) || b) (left_next cs ls k c l class p q)
    ∙ or_swap ((x == class) && has_evidence y.outcome) ((c == class) && has_evidence l.outcome) (is_left (take k cs) (take k ls) class)

set_one : (marks : List Bool) (c class : ℕ) → class < length marks → get_or (set marks c true) class false ≡ ((c == class) || get_or marks class false)
set_one marks c class lt = elim (eqb_tells c class) [
  | inl same ↦
      subst (λ (i : ℕ). get_or (set marks i true) class false ≡ ((c == class) || get_or marks class false)) (sym same.1)
      (get_or-set_same marks class true false lt ∙ sym (ap (λ b. b || get_or marks class false) same.0))
  | inr other ↦ get_or-set_other marks c class true false (λ e. other.1 (sym e)) ∙ sym (ap (λ b. b || get_or marks class false) other.0)
]

marked_at : (marks : List Bool) (c class : ℕ) (evident : Bool) → class < length marks
    → get_or (marked marks c evident) class false ≡ (((c == class) && evident) || get_or marks class false)
marked_at marks c class true lt = set_one marks c class lt ∙ ap (λ b. b || get_or marks class false) (and_true (c == class))
  where
    and_true : (b : Bool) → b ≡ (b && true)
    and_true false = refl
    and_true true = refl
marked_at marks c class false lt = ap (λ b. b || get_or marks class false) (and_false (c == class))
  where
    and_false : (b : Bool) → false ≡ (b && false)
    and_false false = refl
    and_false true = refl

marked_length : (marks : List Bool) (c : ℕ) (evident : Bool) → length (marked marks c evident) ≡ length marks
marked_length marks c true = length-set marks c true
marked_length marks c false = refl

-- nothing is marked where no line was read
pub marked_none : (classes : ℕ) (numbers : List ℕ) (lines : List Line) (marks : List Bool) → marks ≡ replicate classes false
    → AreMarked classes (take 0 numbers) (take 0 lines) marks
marked_none classes numbers lines marks is = record {
  count = ap length is ∙ length-replicate classes false;
  each = λ class lt. ap (λ ms. get_or ms class false) is ∙ get_or-replicate classes class false false lt;
}

-- and where all were read
pub marked_all : (classes : ℕ) (numbers : List ℕ) (lines : List Line) (marks : List Bool) (k : ℕ) → length lines ≡ length numbers → length lines ≤ k
    → AreMarked classes (take k numbers) (take k lines) marks → AreMarked classes numbers lines marks
marked_all classes numbers lines marks k same le are =
    subst (λ cs. AreMarked classes cs lines marks) (take_all k numbers (omega arith)) (subst (λ ls. AreMarked classes (take k numbers) ls marks) (take_all k lines le) are)

pub marked_more : (classes : ℕ) (numbers : List ℕ) (lines : List Line) (k c : ℕ) (l : Line) (marks new : List Bool) → slice_get numbers k ≡ Some c → slice_get lines k ≡ Some l
    → AreMarked classes (take k numbers) (take k lines) marks → new ≡ marked marks c (has_evidence l.outcome) → AreMarked classes (take (k + 1) numbers) (take (k + 1) lines) new
marked_more classes numbers lines k c l marks new at said are made = record {
  count = ap length made ∙ (marked_length marks c (has_evidence l.outcome) ∙ are.count);
  each = λ class lt.
      ap (λ ms. get_or ms class false) made
      ∙ (marked_at marks c class (has_evidence l.outcome) (omega (arith, are.count))
      ∙ (ap (λ b. ((c == class) && has_evidence l.outcome) || b) (are.each class lt)
      ∙ (sym (left_next numbers lines k c l class at said) ∙ ap (λ i. is_left (take i numbers) (take i lines) class) (sym (add-one k)))));
}

-- ---- one class more

left_push : (numbers : List ℕ) (lines : List Line) (k : ℕ) (fs : List Fault) (f : Fault)
    → left_from numbers lines k (fs ++ f ∷ []) ≡ left_from numbers lines k fs ++ cond (is_left numbers lines (k + length fs)) (f ∷ []) []
left_push numbers lines k [] f = ap (λ i. cond (is_left numbers lines i) (f ∷ []) []) (omega arith)
left_push numbers lines k (g ∷ fs) f =
    let more = left_push numbers lines (suc k) fs f in
    let place : suc k + length fs ≡ k + length (g ∷ fs) = omega arith in
    ap (λ rest. cond (is_left numbers lines k) (g ∷ rest) rest) (more ∙ ap (λ i. left_from numbers lines (suc k) fs ++ cond (is_left numbers lines i) (f ∷ []) []) place)
    ∙ cond_append (is_left numbers lines k) g (left_from numbers lines (suc k) fs) (cond (is_left numbers lines (k + length (g ∷ fs))) (f ∷ []) [])
  where
    cond_append : (b : Bool) (g : Fault) (xs ys : List Fault) → cond b (g ∷ (xs ++ ys)) (xs ++ ys) ≡ cond b (g ∷ xs) xs ++ ys
    cond_append false g xs ys = refl
    cond_append true g xs ys = refl

next_take : {X : Type 0} (xs : List X) (k : ℕ) (x : X) → slice_get xs k ≡ Some x → take (suc k) xs ≡ take k xs ++ x ∷ []
next_take [] k x e = cc
next_take (y ∷ ys) zero x e = let same : y ≡ x = cc in ap (λ z. z ∷ []) same
next_take (y ∷ ys) (suc k) x e = ap (λ zs. y ∷ zs) (next_take ys k x e)

some_at : {X : Type 0} (xs : List X) (k : ℕ) → k < length xs → (x : X) × (slice_get xs k ≡ Some x)
some_at [] k lt = absurd (omega arith)
some_at (x ∷ xs) zero lt = (x, refl)
some_at (x ∷ xs) (suc k) lt = some_at xs k (omega arith)

module _ (classes : Classes) (lines : List Line) (marks : List Bool) (are : AreMarked (length classes.representatives) classes.numbers lines marks)
    (class : ℕ) (left : List Fault) (before : left ≡ left_from classes.numbers lines 0 (take class classes.representatives)) where
  -- the mark that is read of the class
  pub mark_read : (mark : Bool) → class < length classes.representatives → mark ≡ get_or marks class mark → get_or marks class false ≡ mark
  mark_read mark within is = get_or_default marks class false mark (omega (arith, are.count)) ∙ sym is

  class_done : (f : Fault) → slice_get classes.representatives class ≡ Some f
      → left ++ cond (get_or marks class false) (f ∷ []) [] ≡ left_from classes.numbers lines 0 (take (class + 1) classes.representatives)
  class_done f at =
      let within = slice_get_within classes.representatives class f at in
      let size : 0 + length (take class classes.representatives) ≡ class = omega (arith, length-take-le class classes.representatives (omega arith)) in
      ap₂ (λ xs b. xs ++ cond b (f ∷ []) []) before (are.each class within ∙ ap (λ i. is_left classes.numbers lines i) (sym size))
      ∙ (sym (left_push classes.numbers lines 0 (take class classes.representatives) f)
      ∙ ap (left_from classes.numbers lines 0) (sym (next_take classes.representatives class f at) ∙ ap (λ i. take i classes.representatives) (sym (add-one class))))

  pub class_left : (f : Fault) (new : List Fault) → slice_get classes.representatives class ≡ Some f → get_or marks class false ≡ true → new ≡ left ++ f ∷ []
      → new ≡ left_from classes.numbers lines 0 (take (class + 1) classes.representatives)
  class_left f new at marked is = is ∙ (ap (λ b. left ++ cond b (f ∷ []) []) (sym marked) ∙ class_done f at)

  pub class_passed : class < length classes.representatives → get_or marks class false ≡ false
      → left ≡ left_from classes.numbers lines 0 (take (class + 1) classes.representatives)
  class_passed within unmarked =
      let f = some_at classes.representatives class within in
      sym (append-nil left) ∙ (ap (λ b. left ++ cond b (f.0 ∷ []) []) (sym unmarked) ∙ class_done f.0 f.1)

-- ---- what it means that a class is left

-- a line that rests on evidence of a fault of the class
pub record IsLeftAt (numbers : List ℕ) (lines : List Line) (class : ℕ) : Type 0 where
  pub place : ℕ
  pub line : Line
  pub of_class : slice_get numbers place ≡ Some class
  pub said : slice_get lines place ≡ Some line
  pub evident : has_evidence line.outcome ≡ true

left_later : (c : ℕ) (l : Line) (cs : List ℕ) (ls : List Line) (class : ℕ) → IsLeftAt cs ls class → IsLeftAt (c ∷ cs) (l ∷ ls) class
left_later c l cs ls class at = record { place = suc at.place; line = at.line; of_class = at.of_class; said = at.said; evident = at.evident }

pub left_at : (cs : List ℕ) (ls : List Line) (class : ℕ) → is_left cs ls class ≡ true → IsLeftAt cs ls class
left_at [] ls class e = absurd (false≢true e)
left_at (c ∷ cs) [] class e = absurd (false≢true e)
left_at (c ∷ cs) (l ∷ ls) class e = elim (or_cases ((c == class) && has_evidence l.outcome) (is_left cs ls class) e) [
  | inl here ↦
      let both = and_parts (c == class) (has_evidence l.outcome) here in
      record { place = 0; line = l; of_class = ap Some (eqb-true c class both.0); said = refl; evident = both.1 }
  | inr later ↦ left_later c l cs ls class (left_at cs ls class later)
]

pub left_by : (cs : List ℕ) (ls : List Line) (place class : ℕ) (l : Line) → slice_get cs place ≡ Some class → slice_get ls place ≡ Some l → has_evidence l.outcome ≡ true
    → is_left cs ls class ≡ true
left_by [] ls place class l p q e = cc
left_by (x ∷ cs) [] place class l p q e = cc
left_by (x ∷ cs) (y ∷ ls) zero class l p q e =
    let same : x ≡ class = cc in
    let said : y ≡ l = cc in
    or_left ((x == class) && has_evidence y.outcome) (is_left cs ls class) (and_from (x == class) (has_evidence y.outcome) (eq-eqb x class same) (ap (λ (v : Line). has_evidence v.outcome) said ∙ e))
left_by (x ∷ cs) (y ∷ ls) (suc place) class l p q e = or_right ((x == class) && has_evidence y.outcome) (is_left cs ls class) (left_by cs ls place class l p q e)
