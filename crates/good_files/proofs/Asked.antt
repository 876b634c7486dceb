-- Where each fault was asked for, the evidence is that of the classes that no pattern detects.
use Rattle.std.proofs.Common.{◌≡◌, ◌≢◌, ◌∙◌, ℕ, ◌↔◌, true, List, Some, refl, sym, ap, subst, arith}
use Rattle.std.specs.List.{All, Contains, slice_get}
use Rattle.std.proofs.lemmas.Bool.{false≢true}
use Rattle.std.proofs.lemmas.Option.{get_or_from_slice_get, slice_get_within}
use Rattle.statement.specs.declared.lines.Fault.{Fault}
use Rattle.netlist.specs.Conditions.{IsSound}
use Rattle.statement.specs.Faults.{universe_of}
use Rattle.fault_collapse.specs.Classes.{AreClasses, Represents}
use Rattle.fault_collapse.specs.Joined.{IsEquivalent}
use Rattle.fault_collapse.specs.Laws.{DetectedAlike}
use Rattle.fault_collapse.specs.Numbers.{Classes}
use Rattle.word_sim.specs.Hits.{IsNeverDetected}
use Rattle.statement.specs.declared.outcomes.Outcome.{Outcome}
use Rattle.statement.specs.declared.outcomes.Outcome.TheVariants.{Detected, Redundant, Aborted, Unasked}
use Rattle.statement.specs.Reports.{Line}
use Rattle.run_report.specs.Outcomes.{IsTrueOf, Test, has_evidence}
use Rattle.run_report.proofs.ClassLemmas.{equivalent, to_member}
use Rattle.run_report.proofs.LeftLemmas.{left_at, left_by}
use Rattle.good_files.specs.GoodFiles.{AreTrueFaults, faults_in}
use Rattle.good_files.specs.Laws.{IsAsked}
use Rattle.good_files.proofs.Left.{class_left, left_stands}

same_some : {X : Type 0} (x y : X) → Some x ≡ Some y → x ≡ y
same_some x y e = cc

module _ (alike : DetectedAlike) (t : Test) (sound : IsSound t.netlist) where
  -- what rests on evidence is of a class that no pattern detects
  unseen : (f g : Fault) → IsEquivalent t.netlist f g → (o : Outcome) (pin : List ℕ) → has_evidence o ≡ true → IsTrueOf t f g o pin → IsNeverDetected t.netlist t.patterns g
  unseen f g same (Detected place cycle) pin rests is = absurd (false≢true rests)
  unseen f g same Redundant pin rests is = λ place point d. is.1.never place point (to_member t.netlist sound alike f g same t.patterns place point d)
  unseen f g same Aborted pin rests is = λ place point d. is.1.never place point (to_member t.netlist sound alike f g same t.patterns place point d)
  unseen f g same Unasked pin rests is = absurd (false≢true rests)

  -- what is said of a fault that no pattern detects and that was asked for rests on evidence
  rests_on : (f g : Fault) (o : Outcome) (pin : List ℕ) → o ≢ Unasked → IsTrueOf t f g o pin → IsNeverDetected t.netlist t.patterns f → has_evidence o ≡ true
  rests_on f g (Detected place cycle) pin asked is never = absurd (never place is.point is.last.here)
  rests_on f g Redundant pin asked is never = refl
  rests_on f g Aborted pin asked is never = refl
  rests_on f g Unasked pin asked is never = absurd (asked refl)

  module _ (classes : Classes) (are : AreClasses t.netlist classes) (lines : List Line) (good : AreTrueFaults t classes lines) (f : Fault) where
    undetected : Contains (faults_in t.evidence) f → IsNeverDetected t.netlist t.patterns f
    undetected c =
        let w = class_left classes lines f (subst (λ (fs : List Fault). Contains fs f) good.left c) in
        let here = left_at classes.numbers lines w.class w.left in
        let within = slice_get_within lines here.place here.line here.said in
        let all = good.lines_true.no_more in
        let u = good.lines_true.each here.place (omega arith) in
        let number : u.class ≡ w.class = same_some u.class w.class (sym u.of_class ∙ here.of_class) in
        let own : u.representative ≡ f =
        same_some u.representative f (sym u.represents ∙ (ap (λ (k : ℕ). slice_get classes.representatives k) number ∙ w.represents)) in
        let line : here.line ≡ u.line = same_some here.line u.line (sym here.said ∙ u.said) in
        let same = equivalent t.netlist classes are here.place u.class u.fault u.representative u.member u.of_class u.represents in
        subst (λ (g : Fault). IsNeverDetected t.netlist t.patterns g) own
        (unseen u.fault u.representative same u.line.outcome u.line.pin (subst (λ (l : Line). has_evidence l.outcome ≡ true) line here.evident) u.is_true)

    evident : All IsAsked lines → (class : ℕ) → Represents classes class f → IsNeverDetected t.netlist t.patterns f → Contains (faults_in t.evidence) f
    evident asked class represents never =
        let first = are.first class (slice_get_within classes.representatives class f represents) in
        let at : slice_get (universe_of t.netlist) first.place ≡ Some f = first.representative f represents in
        let u = good.lines_true.each first.place (slice_get_within (universe_of t.netlist) first.place f at) in
        let fault : u.fault ≡ f = same_some u.fault f (sym u.member ∙ at) in
        let number : u.class ≡ class = sym (get_or_from_slice_get classes.numbers first.place u.class 0 u.of_class) ∙ first.member in
        let within = slice_get_within lines first.place u.line u.said in
        let one : IsAsked u.line = subst IsAsked (get_or_from_slice_get lines first.place u.line u.line u.said) (asked first.place u.line within) in
        let rests = rests_on u.fault u.representative u.line.outcome u.line.pin one u.is_true (subst (λ (g : Fault). IsNeverDetected t.netlist t.patterns g) (sym fault) never) in
        let left = left_by classes.numbers lines first.place class u.line (u.of_class ∙ ap (λ (k : ℕ). Some k) number) u.said rests in
        subst (λ (fs : List Fault). Contains fs f) (sym good.left) (left_stands classes lines class f represents left)

    pub as_before : All IsAsked lines → (class : ℕ) → Represents classes class f → Contains (faults_in t.evidence) f ↔ IsNeverDetected t.netlist t.patterns f
    as_before asked class represents = (undetected, evident asked class represents)
