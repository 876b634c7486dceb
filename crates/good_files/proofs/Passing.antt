-- For good files the check has no other answer than how many faults there are.
use Rattle.std.proofs.Common.{◌≡◌, ℕ, ◌∙◌, ◌⊎◌, inl, inr, List, length, Ok, Err, refl, sym, ap, subst, arith}
use Rattle.std.specs.Prelude.{Result}
use Rattle.std.specs.List.{All, slice_get}
use Rattle.std.proofs.lemmas.Option.{slice_get_within}
use Rattle.statement.specs.declared.lines.Fault.{Fault}
use Rattle.statement.specs.Netlists.{Netlist}
use Rattle.netlist.specs.Conditions.{IsSound}
use Rattle.statement.specs.Patterns.{Holds}
use Rattle.cubes.specs.Cubes.{IsPatternOf}
use Rattle.bench_text.specs.declared.refusal.Names.TheVariants.{Design}
use Rattle.bench_text.specs.Reading.{IsRead}
use Rattle.scan_insert.specs.Scanned.{AreChainsOf}
use Rattle.stil_read.specs.Laws.{AtMostOne}
use Rattle.stil_patterns.specs.Laws.{OnePatternList}
use Rattle.statement.specs.Tests.{IsFileOf}
use Rattle.statement.specs.Faults.{universe_of}
use Rattle.fault_collapse.specs.Laws.{ClassesOnce}
use Rattle.fault_collapse.specs.Numbers.{Classes}
use Rattle.certificate.specs.Certificates.{IsCertificate}
use Rattle.certificate.specs.Laws.{OneCertificate}
use Rattle.report.specs.Laws.{TextsTellReports}
use Rattle.statement.specs.Reports.{Line}
use Rattle.run_report.specs.Outcomes.{Test}
use Rattle.good_files.specs.GoodFiles.{AreGoodFiles, AreReportTotals, AreTrueFaults, Contents, HasHolds, HasPatterns, IsTested, StandFor, chains_in, chains_said, test_in, test_with}
use Rattle.statement.specs.Statement.{FiveFiles}
use Rattle.good_files.specs.declared.answers.Checked.{Checked}
use Rattle.good_files.specs.declared.answers.Checked.TheVariants.{Faults, False}
use Rattle.good_files.specs.declared.answers.Clause.TheVariants as clause
use Rattle.good_files.specs.declared.answers.CheckFault.{CheckFault}
use Rattle.good_files.specs.declared.answers.CheckFault.TheVariants as fault
use Rattle.good_files.specs.Clauses.{IsFalseFault}
use Rattle.good_files.specs.Checks.{IsAnswer, IsChecked}
use Rattle.good_files.proofs.FirstOnLoop.{read_once}
use Rattle.good_files.proofs.Chains.{dealt}
use Rattle.good_files.proofs.Held.{held_once}

-- the laws that are cited
pub record Laws : Type 1 where
  pub certificate : OneCertificate
  pub report : TextsTellReports
  pub stil : AtMostOne
  pub patterns : OnePatternList
  pub classes : ClassesOnce

-- ---- what is true of a test's faults excludes that one is named

module _ (t : Test) (classes : Classes) (lines : List Line) (are : AreTrueFaults t classes lines) where
  none_named : (text : List ℕ) → IsFalseFault t classes lines text → ⊥
  none_named text (inl untrue) =
      untrue.untrue (are.lines_true.each untrue.place (slice_get_within (universe_of t.netlist) untrue.place untrue.fault untrue.member))
  none_named text (inr (inl further)) =
      let past = slice_get_within lines (length (universe_of t.netlist)) further.line further.further in
      let count = are.lines_true.no_more in
      omega arith
  none_named text (inr (inr stray)) = stray.first.stray (ap (λ (fs : List Fault). slice_get fs stray.first.place) (sym are.left) ∙ stray.first.at)

-- ---- clauses of contents determine the test

module _ (laws : Laws) (c : Contents) (sound : IsSound c.netlist) (t u : IsTested c) where
  same_holds : t.holds ≡ u.holds
  same_holds = held_once c.netlist sound t.holds u.holds c.said.holds t.held.held u.held.held t.held.said u.held.said

  chains_dealt : AreChainsOf c.netlist (chains_in c)
  chains_dealt = dealt c.netlist (chains_said c.said) t.scan.allowed

  same_patterns : t.patterns ≡ u.patterns
  same_patterns =
      laws.patterns c.netlist t.holds (chains_in c) t.patterns u.patterns c.file sound chains_dealt t.test.obey
      (subst (λ (h : Holds). All (IsPatternOf c.netlist h) u.patterns) (sym same_holds) u.test.obey)
      t.test.is_file_of
      (subst (λ (h : Holds). IsFileOf c.netlist h (chains_in c) u.patterns c.file) (sym same_holds) u.test.is_file_of)

  same_test : test_in c t ≡ test_in c u
  same_test i = test_with c (same_holds i) (same_patterns i)

  same_classes : t.classes ≡ u.classes
  same_classes = laws.classes c.netlist t.classes u.classes t.are_classes u.are_classes

-- ---- one netlist

pub same_net : (net : List ℕ) (n m : Netlist) → IsRead Design net (Ok n) → IsRead Design net (Ok m) → n ≡ m
same_net net n m p q = p.0 ∙ sym q.0

-- ---- good files

module _ (laws : Laws) (files : FiveFiles) (c : Contents) (sound : IsSound c.netlist) (good : AreGoodFiles files c) where
  faults_true : (t : IsTested c) → AreTrueFaults (test_in c t) t.classes c.said.lines
  faults_true t =
      subst (λ (k : Classes). AreTrueFaults (test_in c t) k c.said.lines) (sym (same_classes laws c sound t good.tested))
      (subst (λ (s : Test). AreTrueFaults s good.tested.classes c.said.lines) (sym (same_test laws c sound t good.tested)) good.faults)

  totals_true : (t : IsTested c) → AreReportTotals (test_in c t) t.classes c.said
  totals_true t =
      subst (λ (k : Classes). AreReportTotals (test_in c t) k c.said) (sym (same_classes laws c sound t good.tested))
      (subst (λ (s : Test). AreReportTotals s good.tested.classes c.said) (sym (same_test laws c sound t good.tested)) good.totals)

  with_holds : (holds : Holds) → HasHolds c holds → HasPatterns c holds good.tested.patterns
  with_holds holds held =
      let t = good.tested in
      subst (λ (h : Holds). HasPatterns c h t.patterns) (held_once c.netlist sound t.holds holds c.said.holds t.held.held held.held t.held.said held.said) t.test

  one_answer : (answer : Checked) → IsAnswer c answer → answer ≡ Faults (length (universe_of c.netlist))
  one_answer (False clause.ScanDiffers) is = absurd (is good.tested.scan)
  one_answer (False clause.HoldDiffers) is = absurd (is.1 good.tested.holds good.tested.held)
  one_answer (False clause.StilDiffers) is = absurd (is.1.2 good.tested.patterns (with_holds is.1.0 is.1.1))
  one_answer (False (clause.Fault text)) is = absurd (none_named (test_in c is.0) is.0.classes c.said.lines (faults_true is.0) text.items is.1)
  one_answer (False clause.TotalsDiffer) is = absurd (is.2 (totals_true is.0))
  one_answer (Faults count) is = ap Faults is.3

  one_contents : (d : Contents) → StandFor files d → d ≡ c
  one_contents d s =
      let own = good.stand in
      let net = same_net files.net d.netlist c.netlist s.net own.net in
      let file = laws.stil files.stil d.file c.file s.stil own.stil in
      let said = laws.report d.said c.said s.is_report own.is_report (sym s.report ∙ own.report) in
      let evidence = laws.certificate c.netlist files.certificate d.evidence c.evidence sound
      (subst (λ (m : Netlist). IsCertificate m files.certificate d.evidence) net s.certificate) own.certificate in
      let scan = sym s.scan ∙ own.scan in
      λ i. record { netlist = net i; scan = scan i; file = file i; evidence = evidence i; said = said i }

  pub passes : (answer : Result Checked CheckFault) → IsChecked files answer → (answer ≡ Err fault.NoMemory) ⊎ (answer ≡ Ok (Faults (length (universe_of c.netlist))))
  passes (Ok answer) is =
      let own : IsAnswer c answer = subst (λ (d : Contents). IsAnswer d answer) (one_contents is.0 is.1) is.2 in
      inr (ap (λ (a : Checked). Ok a) (one_answer answer own))
  passes (Err (fault.Netlist refusal)) is = absurd (read_once Design files.net c.netlist refusal good.stand.net is)
  passes (Err fault.NotStil) is = absurd (is.2 c.file good.stand.stil)
  passes (Err fault.NotCertificate) is =
      absurd (is.4 c.evidence (subst (λ (m : Netlist). IsCertificate m files.certificate c.evidence) (same_net files.net c.netlist is.0 good.stand.net is.2) good.stand.certificate))
  passes (Err fault.NotReport) is = absurd (is.6 c.said good.stand.is_report good.stand.report)
  passes (Err fault.NoMemory) is = inl refl
