-- The slow lines of which a line says redundant or aborted, and the certificate's order.
use Rattle.std.proofs.Common.{◌≡◌, ℕ, zero, suc, ◌<◌, ◌≤◌, ◌+◌, ◌∙◌, inl, inr, Bool, true, false, cond, List, [], ◌∷◌, ◌++◌, length, get_or, take, Some, refl, sym, ap, ap₂, subst, arith}
use Rattle.std.specs.List.{Contains, slice_get}
use Rattle.std.proofs.lemmas.Bool.{cases_lt, false≢true}
use Rattle.std.proofs.lemmas.List.{append-nil, get_or-take, length-map, take_all}
use Rattle.std.proofs.lemmas.Option.{get_or_from_slice_get, slice_get-get_or}
use Rattle.statement.specs.declared.lines.Fault.{Fault}
use Rattle.statement.specs.declared.lines.Line.TheVariants.{Stem}
use Rattle.statement.specs.declared.outcomes.Outcome.{Outcome}
use Rattle.statement.specs.declared.outcomes.Outcome.TheVariants.{Detected, Redundant, Aborted, Unasked}
use Rattle.statement.specs.Reports.{Line}
use Rattle.netlist.proofs.Lists.{contains_cases, contains_head, contains_nil, contains_tail}
use Rattle.fault_universe.proofs.Distinct.{IsDistinct, one_place}
use Rattle.evidence.specs.declared.kinds.Evidence.{Evidence}
use Rattle.evidence.specs.declared.kinds.Evidence.TheVariants.{Tree}
use Rattle.run_report.specs.Outcomes.{IsFirstOf, has_evidence}
use Rattle.good_files.specs.GoodFiles.{faults_in}
use Rattle.good_slow_files.specs.GoodSlowFiles.{IsTrueOfSlow, SlowTest, slow_left_of}

blank : Fault
blank = record { line = Stem 0; value = false }

-- ---- one line more

cond_append : (b : Bool) (f : Fault) (xs ys : List Fault) → cond b (f ∷ (xs ++ ys)) (xs ++ ys) ≡ cond b (f ∷ xs) xs ++ ys
cond_append true f xs ys = refl
cond_append false f xs ys = refl

left_next : (fs : List Fault) (ls : List Line) (k : ℕ) (f : Fault) (l : Line) → slice_get fs k ≡ Some f → slice_get ls k ≡ Some l
    → slow_left_of (take (suc k) fs) (take (suc k) ls) ≡ slow_left_of (take k fs) (take k ls) ++ cond (has_evidence l.outcome) (f ∷ []) []
left_next [] ls k f l p q = cc
left_next (g ∷ fs) [] k f l p q = cc
left_next (g ∷ fs) (m ∷ ls) zero f l p q =
    let e : g ≡ f = cc in
    let d : m ≡ l = cc in
    ap₂ (λ (h : Fault) (n : Line). cond (has_evidence n.outcome) (h ∷ []) []) e d
left_next (g ∷ fs) (m ∷ ls) (suc k) f l p q =
    ap (λ (xs : List Fault). cond (has_evidence m.outcome) (g ∷ xs) xs) (left_next fs ls k f l p q)
    ∙ cond_append (has_evidence m.outcome) g (slow_left_of (take k fs) (take k ls)) (cond (has_evidence l.outcome) (f ∷ []) [])

pub with_line : (fs : List Fault) (ls : List Line) (k : ℕ) (f : Fault) (l : Line) (old new : List Fault) → slice_get fs k ≡ Some f → slice_get ls k ≡ Some l
    → has_evidence l.outcome ≡ true → old ≡ slow_left_of (take k fs) (take k ls) → new ≡ old ++ f ∷ [] → new ≡ slow_left_of (take (k + 1) fs) (take (k + 1) ls)
with_line fs ls k f l old new p q rests before added =
    let one : k + 1 ≡ suc k = omega arith in
    added ∙ (ap (λ (xs : List Fault). xs ++ f ∷ []) before
    ∙ (sym (ap (λ b. slow_left_of (take k fs) (take k ls) ++ cond b (f ∷ []) []) rests)
    ∙ (sym (left_next fs ls k f l p q) ∙ sym (ap (λ (i : ℕ). slow_left_of (take i fs) (take i ls)) one))))

pub without_line : (fs : List Fault) (ls : List Line) (k : ℕ) (l : Line) (old : List Fault) → k < length fs → slice_get ls k ≡ Some l
    → has_evidence l.outcome ≡ false → old ≡ slow_left_of (take k fs) (take k ls) → old ≡ slow_left_of (take (k + 1) fs) (take (k + 1) ls)
without_line fs ls k l old lt q rests before =
    let f = get_or fs k blank in
    let p : slice_get fs k ≡ Some f = slice_get-get_or fs k blank lt in
    let one : k + 1 ≡ suc k = omega arith in
    before ∙ (sym (append-nil (slow_left_of (take k fs) (take k ls)))
    ∙ (sym (ap (λ b. slow_left_of (take k fs) (take k ls) ++ cond b (f ∷ []) []) rests)
    ∙ (sym (left_next fs ls k f l p q) ∙ sym (ap (λ (i : ℕ). slow_left_of (take i fs) (take i ls)) one))))

pub all_left : (fs : List Fault) (ls : List Line) (k : ℕ) (left : List Fault) → length fs ≤ k → length ls ≤ k → left ≡ slow_left_of (take k fs) (take k ls)
    → left ≡ slow_left_of fs ls
all_left fs ls k left few lines is = is ∙ ap₂ slow_left_of (take_all k fs few) (take_all k ls lines)

-- ---- they are of the faults, and stand once

from_cond : (b : Bool) (f g : Fault) (xs : List Fault) → Contains (cond b (f ∷ xs) xs) g → Contains (f ∷ xs) g
from_cond true f g xs c = c
from_cond false f g xs c = contains_tail f g xs c

left_within : (fs : List Fault) (ls : List Line) (g : Fault) → Contains (slow_left_of fs ls) g → Contains fs g
left_within [] ls g c = absurd (contains_nil g c)
left_within (f ∷ fs) [] g c = absurd (contains_nil g c)
left_within (f ∷ fs) (l ∷ ls) g c = elim (contains_cases f g (slow_left_of fs ls) (from_cond (has_evidence l.outcome) f g (slow_left_of fs ls) c)) [
  | inl same ↦ subst (λ (h : Fault). Contains (f ∷ fs) h) same (contains_head f fs)
  | inr more ↦ contains_tail f g fs (left_within fs ls g more)
]

cond_distinct : (b : Bool) (f : Fault) (xs : List Fault) → (Contains xs f → ⊥) → IsDistinct xs → IsDistinct (cond b (f ∷ xs) xs)
cond_distinct true f xs none distinct = (none, distinct)
cond_distinct false f xs none distinct = distinct

left_distinct : (fs : List Fault) (ls : List Line) → IsDistinct fs → IsDistinct (slow_left_of fs ls)
left_distinct [] ls distinct = tt
left_distinct (f ∷ fs) [] distinct = tt
left_distinct (f ∷ fs) (l ∷ ls) distinct =
    cond_distinct (has_evidence l.outcome) f (slow_left_of fs ls) (λ c. distinct.0 (left_within fs ls f c)) (left_distinct fs ls distinct.1)

-- ---- each has evidence, where the lines are true

first_stands : (evidence : List (Fault × Evidence)) (g : Fault) (e : Evidence) → IsFirstOf evidence g e → Contains (faults_in evidence) g
first_stands [] g e first = absurd first
first_stands (p ∷ ps) g e (inl first) = subst (λ (f : Fault). Contains (faults_in (p ∷ ps)) f) first.0 (contains_head p.0 (faults_in ps))
first_stands (p ∷ ps) g e (inr first) = contains_tail p.0 g (faults_in ps) (first_stands ps g e first.1)

has_first : (t : SlowTest) (f : Fault) (o : Outcome) (pin : List ℕ) → has_evidence o ≡ true → IsTrueOfSlow t f o pin → Contains (faults_in t.evidence) f
has_first t f (Detected place cycle) pin rests said = absurd (false≢true rests)
has_first t f Redundant pin rests said = first_stands t.evidence f said.0 said.1.first
has_first t f Aborted pin rests said = first_stands t.evidence f (Tree said.0) said.1.first
has_first t f Unasked pin rests said = absurd said

cond_has : (t : SlowTest) (b : Bool) (f g : Fault) (l : Line) (xs : List Fault) → has_evidence l.outcome ≡ b → IsTrueOfSlow t f l.outcome l.pin
    → (Contains xs g → Contains (faults_in t.evidence) g) → Contains (cond b (f ∷ xs) xs) g → Contains (faults_in t.evidence) g
cond_has t false f g l xs rests said more c = more c
cond_has t true f g l xs rests said more c = elim (contains_cases f g xs c) [
  | inl same ↦ subst (λ (h : Fault). Contains (faults_in t.evidence) h) same (has_first t f l.outcome l.pin rests said)
  | inr rest ↦ more rest
]

pub left_has : (t : SlowTest) (fs : List Fault) (ls : List Line) → ((k : ℕ) (f : Fault) (l : Line) → slice_get fs k ≡ Some f → slice_get ls k ≡ Some l → IsTrueOfSlow t f l.outcome l.pin)
    → (g : Fault) → Contains (slow_left_of fs ls) g → Contains (faults_in t.evidence) g
left_has t [] ls each g c = absurd (contains_nil g c)
left_has t (f ∷ fs) [] each g c = absurd (contains_nil g c)
left_has t (f ∷ fs) (l ∷ ls) each g c =
    cond_has t (has_evidence l.outcome) f g l (slow_left_of fs ls) refl (each zero f l refl refl) (left_has t fs ls (λ k h m p q. each (suc k) h m p q) g) c

-- ---- the order

-- where the evidence is in order and each fault has some, none is missing
none_missing : (evidence : List (Fault × Evidence)) (left : List Fault) → IsDistinct left → ((g : Fault) → Contains left g → Contains (faults_in evidence) g)
    → take (length evidence) left ≡ faults_in evidence → left ≡ faults_in evidence
none_missing evidence left distinct has same = elim (cases_lt (length evidence) (length left)) [
  | inl more ↦
      let k = length evidence in
      let g = get_or left k blank in
      let at : slice_get left k ≡ Some g = slice_get-get_or left k blank more in
      let stands = has g (k, more, get_or_from_slice_get left k g g at) in
      let size : length (faults_in evidence) ≡ k = length-map evidence (λ (p : Fault × Evidence). p.0) in
      let j = stands.0 in
      let lt : j < k = (let low = stands.1 in omega arith) in
      let there : get_or left j g ≡ g = sym (get_or-take k left j g lt) ∙ (ap (λ (fs : List Fault). get_or fs j g) same ∙ stands.2) in
      let too : slice_get left j ≡ Some g = slice_get-get_or left j g (omega arith) ∙ ap (λ (f : Fault). Some f) there in
      let once = one_place left k j g distinct at too in
      absurd (omega arith)
  | inr fewer ↦ sym (take_all (length evidence) left fewer) ∙ same
]

pub order_true : (t : SlowTest) (fs : List Fault) (ls : List Line) → IsDistinct fs
    → ((k : ℕ) (f : Fault) (l : Line) → slice_get fs k ≡ Some f → slice_get ls k ≡ Some l → IsTrueOfSlow t f l.outcome l.pin)
    → take (length t.evidence) (slow_left_of fs ls) ≡ faults_in t.evidence → faults_in t.evidence ≡ slow_left_of fs ls
order_true t fs ls distinct each same =
    sym (none_missing t.evidence (slow_left_of fs ls) (left_distinct fs ls distinct) (left_has t fs ls each) same)
