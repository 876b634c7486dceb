-- The grades of all faults, by those of the classes' representatives.
use Rattle.std.proofs.Common.{◌≡◌, ℕ, suc, zero, List, [], ◌∷◌, map, length, get_or, Some, None, slice_get, refl, sym, subst, arith}
use Rattle.std.specs.List.{All, AllZip}
use Rattle.std.proofs.lemmas.Option.{same_Some, slice_get-get_or}
use Rattle.statement.specs.declared.lines.Fault.{Fault}
use Rattle.statement.specs.Netlists.{Netlist}
use Rattle.statement.specs.Runs.{Cycle}
use Rattle.statement.specs.Faults.{universe_of}
use Rattle.netlist.specs.Lines.{IsLineOf}
use Rattle.netlist.specs.Conditions.{IsSound}
use Rattle.fault_universe.specs.Laws.{FaultsHaveLines}
use Rattle.fault_universe.proofs.Elements.{contains_at}
use Rattle.fault_collapse.specs.Numbers.{Classes}
use Rattle.fault_collapse.specs.Classes.{AreClasses}
use Rattle.fault_collapse.specs.Joined.{symmetric}
use Rattle.scan_insert.specs.Scanned.{AreChainsOf, Insertion, insertion_of, scanned_of, sites_of}
use Rattle.chain_test.specs.Hardware.{at_site}
use Rattle.diagnose.specs.Laws.{EquivalentRuns}
use Rattle.diagnose.proofs.Found.{classed}
use Rattle.grade.specs.declared.grade.Grade.{Grade}
use Rattle.grade.specs.declared.grade.Grade.TheVariants.{Unknown}
use Rattle.grade.specs.Grades.{AreGrades, IsGraded}
use Rattle.grade.specs.inner.Spread.{grade_at}

-- ---- lists

none_some : {A B : Type 0} (x : A) → None ≡ Some x → B
none_some x e = cc

-- what holds of the items that were mapped
mapped_at : {A B C : Type 0} (R : B → C → Type 0) (f : A → B) (xs : List A) (zs : List C) (j : ℕ) (x : A) (d : C) → AllZip R (map f xs) zs → slice_get xs j ≡ Some x → R (f x) (get_or zs j d)
mapped_at R f [] zs j x d h e = none_some x e
mapped_at R f (y ∷ xs) [] j x d h e = absurd h
mapped_at R f (y ∷ xs) (z ∷ zs) zero x d h e = subst (λ u. R (f u) z) (same_Some y x e) h.0
mapped_at R f (y ∷ xs) (z ∷ zs) (suc j) x d h e = mapped_at R f xs zs j x d h.1 e

-- what holds of each item and what is read by the number at its place
zip_read : {A B : Type 0} (R : A → B → Type 0) (read : ℕ → B) (xs : List A) (ks : List ℕ) → length ks ≡ length xs
    → ((i : ℕ) (x : A) → slice_get xs i ≡ Some x → R x (read (get_or ks i 0))) → AllZip R xs (map read ks)
zip_read R read [] [] size each = tt
zip_read R read [] (k ∷ ks) size each = absurd (omega (arith, size))
zip_read R read (x ∷ xs) [] size each = absurd (omega (arith, size))
zip_read R read (x ∷ xs) (k ∷ ks) size each = (each 0 x refl, zip_read R read xs ks (omega (arith, size)) (λ i y e. each (suc i) y e))

-- ---- by class

module _ (same : EquivalentRuns) (lines : FaultsHaveLines) (n : Netlist) (chains : List (List ℕ)) (sound : IsSound n) (scanned : IsSound (scanned_of n chains)) (are_chains : AreChainsOf n chains)
    (cycles : List Cycle) where
  line_of : (i : ℕ) (f : Fault) → slice_get (universe_of n) i ≡ Some f → IsLineOf n f.line
  line_of i f e = lines n f sound (contains_at (universe_of n) i f e)

  pub all_spread : (classes : Classes) → AreClasses n classes → (by_class : List Grade)
      → AllZip (λ f grade. IsGraded (scanned_of n chains) f cycles grade) (map (at_site (sites_of n chains)) classes.representatives) by_class
      → AreGrades (insertion_of n chains) (universe_of n) cycles (map (grade_at by_class) classes.numbers)
  all_spread classes are by_class graded =
      zip_read (λ f grade. IsGraded (scanned_of n chains) (at_site (sites_of n chains) f) cycles grade) (grade_at by_class) (universe_of n) classes.numbers are.size
      (λ i f e.
      let of = classed n classes are i f e in
      let h = mapped_at (λ g grade. IsGraded (scanned_of n chains) g cycles grade) (at_site (sites_of n chains)) classes.representatives by_class of.class of.representative Unknown graded of.represents in
      subst (λ k. IsGraded (scanned_of n chains) (at_site (sites_of n chains) f) cycles (grade_at by_class k)) (sym of.class_is)
      record {
        shown = h.shown;
        runs = same n chains of.representative f cycles h.shown sound scanned are_chains (line_of of.place of.representative of.is_at) (line_of i f e)
            (symmetric f of.representative of.equivalent) h.runs;
        told = h.told;
      })

-- grades about what insertion makes are grades about what was made
pub grades_of : (scanned made : Insertion) (faults universe : List Fault) (cycles : List Cycle) (grades listed : List Grade) → scanned ≡ made → faults ≡ universe → listed ≡ grades
    → AreGrades made universe cycles grades → AreGrades scanned faults cycles listed
grades_of scanned made faults universe cycles grades listed is_made are_all are_listed are =
    let at_scanned = subst (λ s. AreGrades s universe cycles grades) (sym is_made) are in
    let at_faults = subst (λ fs. AreGrades scanned fs cycles grades) (sym are_all) at_scanned in
    subst (AreGrades scanned faults cycles) (sym are_listed) at_faults

-- the classes' first members are faults of the design
pub lines_of_classes : FaultsHaveLines → (n : Netlist) → IsSound n → (classes : Classes) → AreClasses n classes → All (λ (f : Fault). IsLineOf n f.line) classes.representatives
lines_of_classes lines n sound classes are k d l =
    let first = are.first k l in
    let f = get_or classes.representatives k d in
    let at = first.representative f (slice_get-get_or classes.representatives k d l) in
    lines n f sound (contains_at (universe_of n) first.place f at)
