-- For good files of slow lines the check has no other answer than how many faults there are.
use Rattle.std.proofs.Common.{◌≡◌, ℕ, ◌∙◌, ◌⊎◌, inl, inr, List, length, Ok, Err, refl, sym, ap, subst, arith}
use Rattle.std.specs.Prelude.{Result}
use Rattle.std.specs.List.{All, slice_get}
use Rattle.std.proofs.lemmas.Option.{slice_get_within}
use Rattle.statement.specs.declared.lines.Fault.{Fault}
use Rattle.statement.specs.Netlists.{Netlist}
use Rattle.statement.specs.Patterns.{Holds}
use Rattle.statement.specs.Reports.{Line}
use Rattle.statement.specs.Statement.{FiveFiles}
use Rattle.statement.specs.Faults.{universe_of}
use Rattle.netlist.specs.Conditions.{IsSound}
use Rattle.netlist.specs.Designs.{IsDesign}
use Rattle.cubes.specs.Cubes.{IsPatternOf}
use Rattle.bench_text.specs.declared.refusal.Names.TheVariants.{Design}
use Rattle.stil_read.specs.Laws.{AtMostOne}
use Rattle.good_files.specs.declared.answers.Checked.{Checked}
use Rattle.good_files.specs.declared.answers.Checked.TheVariants.{Faults, False}
use Rattle.good_files.specs.declared.answers.Clause.TheVariants as clause
use Rattle.good_files.specs.declared.answers.CheckFault.{CheckFault}
use Rattle.good_files.specs.declared.answers.CheckFault.TheVariants as fault
use Rattle.good_files.proofs.FirstOnLoop.{read_once}
use Rattle.good_files.proofs.Held.{held_once}
use Rattle.good_files.proofs.Passing.{same_net}
use Rattle.good_files.proofs.Chains.{dealt}
use Rattle.transition_files.specs.LaunchFiles.{IsLaunchFileOf}
use Rattle.transition_files.specs.Laws.{OneLaunchPatternList}
use Rattle.transition_report.specs.Reading.{IsTransitionCertificate}
use Rattle.transition_report.specs.Laws.{OneTransitionCertificate, TransitionTextsTellReports}
use Rattle.good_slow_files.specs.GoodSlowFiles.{AreGoodSlowFiles, AreSlowTotals, AreTrueSlowFaults, HasLaunchPatterns, HasSlowHolds, IsSlowTested, SlowContents, SlowTest, StandForSlow, slow_chains_in, slow_chains_said, slow_test_in, slow_test_with}
use Rattle.good_slow_files.specs.Clauses.{IsFalseSlowFault}
use Rattle.good_slow_files.specs.Checks.{IsSlowAnswer, IsSlowChecked}

-- the laws that are cited
pub record Laws : Type 0 where
  pub certificate : OneTransitionCertificate
  pub report : TransitionTextsTellReports
  pub stil : AtMostOne
  pub patterns : OneLaunchPatternList

-- ---- what is true of a test's slow lines excludes that one is named

module _ (t : SlowTest) (lines : List Line) (are : AreTrueSlowFaults t lines) where
  none_named : (text : List ℕ) → IsFalseSlowFault t lines text → ⊥
  none_named text (inl untrue) =
      untrue.untrue (are.lines_true.each untrue.place (slice_get_within (universe_of t.netlist) untrue.place untrue.fault untrue.member))
  none_named text (inr (inl further)) =
      let past = slice_get_within lines (length (universe_of t.netlist)) further.line further.further in
      let count = are.lines_true.no_more in
      omega arith
  none_named text (inr (inr stray)) = stray.stray (ap (λ (fs : List Fault). slice_get fs stray.place) (sym are.left) ∙ stray.at)

-- ---- contents determine the test

module _ (laws : Laws) (c : SlowContents) (sound : IsSound c.netlist) (design : IsDesign c.netlist) (t u : IsSlowTested c) where
  same_holds : t.holds ≡ u.holds
  same_holds = held_once c.netlist sound t.holds u.holds c.said.holds t.held.held u.held.held t.held.said u.held.said

  same_patterns : t.patterns ≡ u.patterns
  same_patterns =
      laws.patterns c.netlist t.holds (slow_chains_in c) t.patterns u.patterns c.file sound (dealt c.netlist (slow_chains_said c.said) t.scan.allowed)
      t.test.obey
      (subst (λ (h : Holds). All (IsPatternOf c.netlist h) u.patterns) (sym same_holds) u.test.obey)
      t.test.is_file_of
      (subst (λ (h : Holds). IsLaunchFileOf c.netlist h (slow_chains_in c) u.patterns c.file) (sym same_holds) u.test.is_file_of)

  same_test : slow_test_in c t ≡ slow_test_in c u
  same_test i = slow_test_with c (same_holds i) (same_patterns i)

-- ---- good files

module _ (laws : Laws) (files : FiveFiles) (c : SlowContents) (sound : IsSound c.netlist) (design : IsDesign c.netlist) (good : AreGoodSlowFiles files c) where
  faults_true : (t : IsSlowTested c) → AreTrueSlowFaults (slow_test_in c t) c.said.lines
  faults_true t = subst (λ (s : SlowTest). AreTrueSlowFaults s c.said.lines) (sym (same_test laws c sound design t good.tested)) good.faults

  totals_true : (t : IsSlowTested c) → AreSlowTotals (slow_test_in c t) c.said
  totals_true t = subst (λ (s : SlowTest). AreSlowTotals s c.said) (sym (same_test laws c sound design t good.tested)) good.totals

  with_holds : (holds : Holds) → HasSlowHolds c holds → HasLaunchPatterns c holds good.tested.patterns
  with_holds holds held =
      let t = good.tested in
      subst (λ (h : Holds). HasLaunchPatterns c h t.patterns)
      (held_once c.netlist sound t.holds holds c.said.holds t.held.held held.held t.held.said held.said) t.test

  one_answer : (answer : Checked) → IsSlowAnswer c answer → answer ≡ Faults (length (universe_of c.netlist))
  one_answer (False clause.ScanDiffers) is = absurd (is good.tested.scan)
  one_answer (False clause.HoldDiffers) is = absurd (is.1 good.tested.holds good.tested.held)
  one_answer (False clause.StilDiffers) is = absurd (is.1.2 good.tested.patterns (with_holds is.1.0 is.1.1))
  one_answer (False (clause.Fault text)) is = absurd (none_named (slow_test_in c is.0) c.said.lines (faults_true is.0) text.items is.1)
  one_answer (False clause.TotalsDiffer) is = absurd (is.2 (totals_true is.0))
  one_answer (Faults count) is = ap Faults is.3

  one_contents : (d : SlowContents) → StandForSlow files d → d ≡ c
  one_contents d s =
      let own = good.stand in
      let net = same_net files.net d.netlist c.netlist s.net own.net in
      let file = laws.stil files.stil d.file c.file s.stil own.stil in
      let said = laws.report d.said c.said s.is_report own.is_report (sym s.report ∙ own.report) in
      let evidence = laws.certificate c.netlist files.certificate d.evidence c.evidence sound design
      (subst (λ (m : Netlist). IsTransitionCertificate m files.certificate d.evidence) net s.certificate) own.certificate in
      let scan = sym s.scan ∙ own.scan in
      λ i. record { netlist = net i; scan = scan i; file = file i; evidence = evidence i; said = said i }

  pub passes : (answer : Result Checked CheckFault) → IsSlowChecked files answer → (answer ≡ Err fault.NoMemory) ⊎ (answer ≡ Ok (Faults (length (universe_of c.netlist))))
  passes (Ok answer) is =
      let own : IsSlowAnswer c answer = subst (λ (d : SlowContents). IsSlowAnswer d answer) (one_contents is.0 is.1) is.2 in
      inr (ap (λ (a : Checked). Ok a) (one_answer answer own))
  passes (Err (fault.Netlist refusal)) is = absurd (read_once Design files.net c.netlist refusal good.stand.net is)
  passes (Err fault.NotStil) is = absurd (is.2 c.file good.stand.stil)
  passes (Err fault.NotCertificate) is =
      absurd (is.4 c.evidence
      (subst (λ (m : Netlist). IsTransitionCertificate m files.certificate c.evidence) (same_net files.net c.netlist is.0 good.stand.net is.2) good.stand.certificate))
  passes (Err fault.NotReport) is = absurd (is.6 c.said good.stand.is_report good.stand.report)
  passes (Err fault.NoMemory) is = inl refl
