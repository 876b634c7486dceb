-- The grades of a run's own test agree with its report.
use Rattle.std.proofs.Common.{◌≡◌, ℕ, ◌≤◌, Bool, List, get_or, Some, slice_get, refl, sym, ◌∙◌, ap, subst, inl, inr, arith}
use Rattle.std.specs.List.{AllZip}
use Rattle.std.proofs.lemmas.Bool.{cases_lt}
use Rattle.std.proofs.lemmas.Option.{get_or_from_slice_get, same_Some}
use Rattle.statement.specs.declared.kinds.Tri.{Tri}
use Rattle.statement.specs.declared.kinds.Tri.TheVariants.{X}
use Rattle.statement.specs.declared.lines.Fault.{Fault}
use Rattle.statement.specs.declared.outcomes.Outcome.{Outcome}
use Rattle.statement.specs.declared.outcomes.Outcome.TheVariants as outcome
use Rattle.statement.specs.Faults.{universe_of}
use Rattle.statement.specs.Reports.{Line}
use Rattle.statement.specs.Runs.{Cycle, strobe_at, shown_at}
use Rattle.statement.specs.Values.{known}
use Rattle.netlist.specs.Conditions.{IsSound}
use Rattle.netlist.specs.Lines.{IsLineOf}
use Rattle.netlist.proofs.Settling.{zip_from}
use Rattle.fault_collapse.specs.Numbers.{Classes}
use Rattle.scan_insert.specs.Scanned.{AreChainsOf, insertion_of, scanned_of, sites_of}
use Rattle.scan_play.specs.Passing.{IsWrong}
use Rattle.scan_play.specs.Playing.{IsStrobeMet}
use Rattle.scan_play.specs.Vectors.{AreVectors}
use Rattle.scan_play.proofs.BitLaws.{known_not_x}
use Rattle.scan_play.proofs.Shifting.{zip_at, zip_length}
use Rattle.chain_test.specs.Hardware.{at_site}
use Rattle.run_report.specs.Outcomes.{AreTrueLines, IsTrueOf, Test}
use Rattle.grade.specs.Agreement.{Agrees}
use Rattle.grade.specs.Grades.{AreGrades, IsGraded, IsGradeOf}
use Rattle.grade.specs.Patterns.{IsDetectingStrobe}
use Rattle.grade.specs.declared.grade.Grade.{Grade}
use Rattle.grade.specs.declared.grade.Grade.TheVariants.{Detected, Undetected, Unknown}
use Rattle.grade.proofs.Seen.{grade_by_patterns, seen_wrong, shown_there}
use Rattle.grade.proofs.Told.{met_wrong}

-- ---- one run

module _ (cycles : List Cycle) (shown : List (List Tri)) where
  -- where some strobe is wrong, a grade says where the first one is
  wrong_detected : (cycle output : ℕ) (grade : Grade) → IsWrong known cycles shown cycle output → IsGradeOf cycles shown grade → (c o : ℕ) × (grade ≡ Detected c o) × (c ≤ cycle)
  wrong_detected cycle output (Detected c o) w told = (
    c,
    o,
    refl,
    elim (cases_lt cycle c) [ inl less ↦ absurd (told.1 cycle output (inl less) w) | inr l ↦ l ],
  )
  wrong_detected cycle output Undetected w told = absurd (met_wrong cycles shown cycle output (told cycle output) w)
  wrong_detected cycle output Unknown w told = absurd (told.0 cycle output w)

  not_shown : (c o : ℕ) (b : Bool) → strobe_at cycles c o ≡ known b → shown_at shown c o ≡ Some X → IsStrobeMet cycles shown c o → ⊥
  not_shown c o b strobe x (inl none) = known_not_x b (sym none ∙ strobe)
  not_shown c o b strobe x (inr met) = known_not_x b (same_Some X (known b) (sym x ∙ (met ∙ ap Some strobe)))

  -- where each strobe is met, a grade says so
  met_undetected : (grade : Grade) → ((c o : ℕ) → IsStrobeMet cycles shown c o) → IsGradeOf cycles shown grade → grade ≡ Undetected
  met_undetected (Detected c o) met told = absurd (met_wrong cycles shown c o (met c o) told.0)
  met_undetected Undetected met told = refl
  met_undetected Unknown met told = let u = told.1 in absurd (not_shown u.cycle u.output u.bit u.strobe u.is_shown (met u.cycle u.output))

-- ---- a line of the report

module _ (t : Test) (cycles : List Cycle) (f representative : Fault) (pin : List ℕ) (sound : IsSound t.netlist) (are : AreChainsOf t.netlist t.chains)
    (v : AreVectors t.netlist t.holds t.chains t.patterns cycles) (line : IsLineOf t.netlist f.line) (grade : Grade)
    (h : IsGraded (scanned_of t.netlist t.chains) (at_site (sites_of t.netlist t.chains) f) cycles grade) where
  unseen : ((c o : ℕ) → IsDetectingStrobe t.netlist t.chains t.patterns f c o → ⊥) → grade ≡ Undetected
  unseen none =
      met_undetected cycles h.shown grade
      (grade_by_patterns t.netlist t.holds t.chains t.patterns cycles f sound are v line h.shown h.runs Undetected none) h.told

  never_known : grade ≡ Unknown → ⊥
  never_known e =
      let u = (subst (IsGradeOf cycles h.shown) e h.told).1 in
      let there = shown_there t.netlist t.holds t.chains t.patterns cycles f sound are v line h.shown h.runs u.cycle u.output u.bit u.strobe in
      known_not_x there.0 (same_Some X (known there.0) (sym u.is_shown ∙ there.1))

  pub one_agrees : (said : Outcome) → IsTrueOf t f representative said pin → Agrees said grade
  one_agrees (outcome.Detected place cycle) true_of =
      let seen : IsDetectingStrobe t.netlist t.chains t.patterns f cycle true_of.seen.0 = record { place = place; point = true_of.point; detected = true_of.last.here; strobed = true_of.seen.1 } in
      let wrong = seen_wrong t.netlist t.holds t.chains t.patterns cycles f sound are v line h.shown h.runs cycle true_of.seen.0 seen in
      wrong_detected cycles h.shown cycle true_of.seen.0 grade wrong h.told
  one_agrees outcome.Redundant true_of = unseen (λ c o seen. true_of.1.never seen.place seen.point seen.detected)
  one_agrees outcome.Aborted true_of = unseen (λ c o seen. true_of.1.never seen.place seen.point seen.detected)
  one_agrees outcome.Unasked true_of = never_known

-- ---- all lines

pub all_agree : (t : Test) (classes : Classes) (lines : List Line) (cycles : List Cycle) (grades : List Grade) → IsSound t.netlist → AreChainsOf t.netlist t.chains
    → AreVectors t.netlist t.holds t.chains t.patterns cycles → ((i : ℕ) (f : Fault) → slice_get (universe_of t.netlist) i ≡ Some f → IsLineOf t.netlist f.line) → AreTrueLines t classes lines
    → AreGrades (insertion_of t.netlist t.chains) (universe_of t.netlist) cycles grades → AllZip (λ (line : Line) grade. Agrees line.outcome grade) lines grades
all_agree t classes lines cycles grades sound are v has_line true_lines graded =
    let R : Fault → Grade → Type 0 = λ f grade. IsGraded (scanned_of t.netlist t.chains) (at_site (sites_of t.netlist t.chains) f) cycles grade in
    let size = zip_length R (universe_of t.netlist) grades graded in
    let count = true_lines.no_more in
    zip_from (λ (line : Line) grade. Agrees line.outcome grade) lines grades (count ∙ size)
    (λ i line grade l.
    let own = get_or grades i grade in
    let here = true_lines.each i (omega (arith, l, count)) in
    let same : here.line ≡ get_or lines i line = sym (get_or_from_slice_get lines i here.line line here.said) in
    let h : R here.fault own =
    subst (λ f. R f own) (get_or_from_slice_get (universe_of t.netlist) i here.fault here.fault here.member)
    (zip_at R (universe_of t.netlist) grades i here.fault grade graded (omega (arith, l, count))) in
    subst (λ (m : Line). Agrees m.outcome own) same
    (one_agrees t cycles here.fault here.representative here.line.pin sound are v (has_line i here.fault here.member) own h here.line.outcome here.is_true))
