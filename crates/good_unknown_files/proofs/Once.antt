-- What the files show is one thing: a fault has one grade, and a class has evidence or not.
use Rattle.std.proofs.Common.{◌≡◌, ◌<◌, ◌↔◌, ℕ, inl, inr, Bool, true, false, not, List, [], ◌∷◌, length, replicate, Some, refl, sym, ◌∙◌, ap, subst}
use Rattle.std.specs.List.{AllZip}
use Rattle.std.specs.Prelude.{IsTrue}
use Rattle.std.proofs.lemmas.Bool.{both_ways, cases_order}
use Rattle.statement.specs.declared.kinds.Tri.{Tri}
use Rattle.statement.specs.declared.kinds.Tri.TheVariants.{X}
use Rattle.statement.specs.declared.lines.Fault.{Fault}
use Rattle.statement.specs.Netlists.{Netlist, cells}
use Rattle.statement.specs.Values.{known}
use Rattle.statement.specs.Runs.{Cycle}
use Rattle.netlist.specs.Netlist.{IsAcyclic}
use Rattle.netlist.specs.Conditions.{IsClosed}
use Rattle.tri.specs.Settled.{tri_table}
use Rattle.scan_play.specs.Passing.{IsWrong}
use Rattle.scan_play.specs.Playing.{IsStrobeMet}
use Rattle.scan_play.proofs.Instances.{decides_tri, same_tri}
use Rattle.scan_play.proofs.RunLaws.{runs_once}
use Rattle.chain_test.specs.FirstWrong.{IsFirstPlace}
use Rattle.grade.specs.Grades.{HasUnknown, IsGradeOf, IsGraded}
use Rattle.grade.specs.declared.grade.Grade.{Grade}
use Rattle.grade.specs.declared.grade.Grade.TheVariants.{Detected, Undetected, Unknown}

-- ---- values

bit_not_x : (b : Bool) → known b ≡ X → ⊥
bit_not_x true e = cc
bit_not_x false e = cc

not_itself : (b : Bool) → known (not b) ≡ known b → ⊥
not_itself true e = cc
not_itself false e = cc

some_same : (x y : Tri) → Some x ≡ Some y → x ≡ y
some_same x y e = cc

-- ---- of one run

module _ (cycles : List Cycle) (shown : List (List Tri)) where
  pub met_not_wrong : (c o : ℕ) → IsStrobeMet cycles shown c o → IsWrong known cycles shown c o → ⊥
  met_not_wrong c o (inl none) w = bit_not_x w.0 (sym w.1 ∙ none)
  met_not_wrong c o (inr met) w = not_itself w.0 (some_same (known (not w.0)) (known w.0) (sym w.2 ∙ (met ∙ ap (λ (v : Tri). Some v) w.1)))

  pub met_not_unknown : ((c o : ℕ) → IsStrobeMet cycles shown c o) → HasUnknown cycles shown → ⊥
  met_not_unknown met u = elim (met u.cycle u.output) [
    | inl none ↦ bit_not_x u.bit (sym u.strobe ∙ none)
    | inr is ↦ bit_not_x u.bit (sym (some_same X (known u.bit) (sym u.is_shown ∙ (is ∙ ap (λ (v : Tri). Some v) u.strobe))))
  ]

  same_place : (c o d p : ℕ) → IsFirstPlace (IsWrong known cycles shown) (Some (c, o)) → IsFirstPlace (IsWrong known cycles shown) (Some (d, p))
      → (c ≡ d) × (o ≡ p)
  same_place c o d p a b =
      let cycle_before : c < d → ⊥ = λ l. b.1 c o (inl l) a.0 in
      let cycle_behind : d < c → ⊥ = λ l. a.1 d p (inl l) b.0 in
      let same : c ≡ d = by_order c d cycle_before cycle_behind in
      let before : o < p → ⊥ = λ l. b.1 c o (inr (same, l)) a.0 in
      let behind : p < o → ⊥ = λ l. a.1 d p (inr (sym same, l)) b.0 in
      (same, by_order o p before behind)
    where
      by_order : (x y : ℕ) → (x < y → ⊥) → (y < x → ⊥) → x ≡ y
      by_order x y l g = elim (cases_order x y) [
        | inl same ↦ same
        | inr r ↦ elim r [
          | inl less ↦ absurd (l less)
          | inr more ↦ absurd (g more)
        ]
      ]

  pub same_grade : (a b : Grade) → IsGradeOf cycles shown a → IsGradeOf cycles shown b → a ≡ b
  same_grade (Detected c o) (Detected d p) v w =
      let same = same_place c o d p v w in
      λ i. Detected (same.0 i) (same.1 i)
  same_grade (Detected c o) Undetected v w = absurd (met_not_wrong c o (w c o) v.0)
  same_grade (Detected c o) Unknown v w = absurd (w.0 c o v.0)
  same_grade Undetected (Detected d p) v w = absurd (met_not_wrong d p (v d p) w.0)
  same_grade Undetected Undetected v w = refl
  same_grade Undetected Unknown v w = absurd (met_not_unknown v w.1)
  same_grade Unknown (Detected d p) v w = absurd (v.0 d p w.0)
  same_grade Unknown Undetected v w = absurd (met_not_unknown w v.1)
  same_grade Unknown Unknown v w = refl

-- ---- of a netlist

module _ (s : Netlist) (closed : IsClosed s) (acyclic : IsAcyclic s) (cycles : List Cycle) where
  one_grade : (g : Fault) (a b : Grade) → IsGraded s g cycles a → IsGraded s g cycles b → a ≡ b
  one_grade g a b v w =
      let same : w.shown ≡ v.shown =
      runs_once same_tri decides_tri tri_table (Some g) s closed acyclic (replicate (length (cells s)) X) cycles w.shown v.shown w.runs v.runs in
      same_grade cycles v.shown a b v.told (subst (λ (rows : List (List Tri)). IsGradeOf cycles rows b) same w.told)

  pub grades_once : (move : Fault → Fault) (faults : List Fault) (a b : List Grade) → AllZip (λ f grade. IsGraded s (move f) cycles grade) faults a
      → AllZip (λ f grade. IsGraded s (move f) cycles grade) faults b → a ≡ b
  grades_once move [] [] [] v w = refl
  grades_once move [] [] (y ∷ ys) v w = absurd w
  grades_once move [] (x ∷ xs) b v w = absurd v
  grades_once move (f ∷ fs) [] b v w = absurd v
  grades_once move (f ∷ fs) (x ∷ xs) [] v w = absurd w
  grades_once move (f ∷ fs) (x ∷ xs) (y ∷ ys) v w =
      let first = one_grade (move f) x y v.0 w.0 in
      let rest = grades_once move fs xs ys v.1 w.1 in
      λ i. first i ∷ rest i

-- ---- marks

one_mark : (P : Type 0) (a b : Bool) → IsTrue a ↔ P → IsTrue b ↔ P → a ≡ b
one_mark P true true v w = refl
one_mark P true false v w = absurd (both_ways false refl (w.1 (v.0 refl)))
one_mark P false true v w = absurd (both_ways false refl (v.1 (w.0 refl)))
one_mark P false false v w = refl

pub marks_once : {A : Type 0} (P : A → Type 0) (xs : List A) (a b : List Bool) → AllZip (λ x one. IsTrue one ↔ P x) xs a → AllZip (λ x one. IsTrue one ↔ P x) xs b → a ≡ b
marks_once P [] [] [] v w = refl
marks_once P [] [] (y ∷ ys) v w = absurd w
marks_once P [] (x ∷ xs) b v w = absurd v
marks_once P (f ∷ fs) [] b v w = absurd v
marks_once P (f ∷ fs) (x ∷ xs) [] v w = absurd w
marks_once P (f ∷ fs) (x ∷ xs) (y ∷ ys) v w =
    let first = one_mark (P f) x y v.0 w.0 in
    let rest = marks_once P fs xs ys v.1 w.1 in
    λ i. first i ∷ rest i
