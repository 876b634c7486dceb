-- For good files the check has no other answer than how many faults there are.
use Rattle.std.proofs.Common.{◌≡◌, ◌<◌, ◌↔◌, ℕ, zero, suc, ◌∙◌, ◌⊎◌, inl, inr, List, [], ◌∷◌, length, take, Ok, Err, refl, sym, ap, subst, arith}
use Rattle.std.specs.Prelude.{IsTrue, Result}
use Rattle.std.specs.List.{AllZip, slice_get}
use Rattle.std.proofs.lemmas.List.{length-map}
use Rattle.std.proofs.lemmas.Option.{slice_get_within}
use Rattle.statement.specs.declared.lines.Fault.{Fault}
use Rattle.statement.specs.Benches.{Text}
use Rattle.statement.specs.Faults.{universe_of}
use Rattle.statement.specs.Netlists.{Netlist}
use Rattle.statement.specs.Patterns.{Holds}
use Rattle.statement.specs.Statement.{FiveFiles}
use Rattle.statement.specs.Tests.{vectors_in}
use Rattle.netlist.specs.Conditions.{IsSound}
use Rattle.netlist.specs.Designs.{IsDesign}
use Rattle.bench_text.specs.declared.refusal.Names.TheVariants.{Design}
use Rattle.certificate.specs.Certificates.{IsCertificate}
use Rattle.certificate.specs.Laws.{OneCertificate}
use Rattle.scan_insert.specs.Laws.{ScannedIsSound}
use Rattle.scan_insert.specs.Scanned.{sites_of}
use Rattle.stil_read.specs.Laws.{AtMostOne}
use Rattle.fault_collapse.specs.Laws.{ClassesOnce}
use Rattle.fault_collapse.specs.Numbers.{Classes}
use Rattle.evidence.specs.declared.kinds.Evidence.{Evidence}
use Rattle.good_files.specs.GoodFiles.{faults_in}
use Rattle.good_files.specs.declared.answers.Checked.{Checked}
use Rattle.good_files.specs.declared.answers.Checked.TheVariants.{Faults, False}
use Rattle.good_files.specs.declared.answers.Clause.TheVariants as clause
use Rattle.good_files.specs.declared.answers.CheckFault.{CheckFault}
use Rattle.good_files.specs.declared.answers.CheckFault.TheVariants as fault
use Rattle.good_files.proofs.Chains.{dealt}
use Rattle.good_files.proofs.FirstOnLoop.{read_once}
use Rattle.good_files.proofs.Held.{held_once}
use Rattle.good_files.proofs.Passing.{same_net}
use Rattle.chain_test.specs.Hardware.{at_site}
use Rattle.unknown_inputs.specs.Laws.{OpenedIsSound}
use Rattle.unknown_inputs.specs.Opened.{opened, opened_fault}
use Rattle.unknown_inputs.specs.Unknowns.{Unknowns, holds_at_zero}
use Rattle.unknown_report.specs.Claims.{claim_lines, counts_of}
use Rattle.unknown_report.specs.Laws.{UnknownTextsTellReports}
use Rattle.good_unknown_files.specs.GoodUnknownFiles.{AreClaimTotals, AreGoodUnknownFiles, AreTrueClaims, HasClosed, HasInputs, HasKnownTest, IsOpenGrade, IsUnknownTested, StandForUnknown, UnknownContents, chip_in, claims_in, claims_of, evident_in, lines_due, marked, unknown_chains_in}
use Rattle.good_unknown_files.specs.Clauses.{IsFalseClaim}
use Rattle.good_unknown_files.specs.Checks.{IsUnknownAnswer, IsUnknownChecked}
use Rattle.good_unknown_files.proofs.Once.{grades_once, marks_once}
use Rattle.good_unknown_files.proofs.UnknownNames.{unknown_once}

-- the laws that are cited
pub record Laws : Type 0 where
  pub certificate : OneCertificate
  pub report : UnknownTextsTellReports
  pub stil : AtMostOne
  pub classes : ClassesOnce
  pub scanned : ScannedIsSound
  pub opens : OpenedIsSound

-- ---- clauses of contents determine the test

module _ (laws : Laws) (c : UnknownContents) (sound : IsSound c.netlist) where
  same_unknown : (unknown other : Unknowns) (holds also : Holds) → HasInputs c unknown holds → HasInputs c other also → unknown ≡ other
  same_unknown unknown other holds also a b = unknown_once c.netlist sound unknown other c.said.unknown a.size b.size a.names b.names

  same_holds : (unknown other : Unknowns) (holds also : Holds) → HasInputs c unknown holds → HasInputs c other also → holds ≡ also
  same_holds unknown other holds also a b = held_once c.netlist sound holds also c.said.holds a.held.held b.held.held a.held.said b.held.said

  module _ (design : IsDesign c.netlist) (t u : IsUnknownTested c) where
    unknown_same : t.unknown ≡ u.unknown
    unknown_same = same_unknown t.unknown u.unknown t.holds u.holds t.inputs u.inputs

    holds_same : t.holds ≡ u.holds
    holds_same = same_holds t.unknown u.unknown t.holds u.holds t.inputs u.inputs

    classes_same : t.classes ≡ u.classes
    classes_same = laws.classes c.netlist t.classes u.classes t.findings.are_classes u.findings.are_classes

    grades_same : t.grades ≡ u.grades
    grades_same =
        let n = c.netlist in
        let chains = unknown_chains_in c in
        let chip = chip_in c in
        let open_sound = laws.opens chip t.unknown (laws.scanned n chains sound design (dealt n c.said.chains t.scan.allowed)) t.inputs.some_known in
        grades_once (opened chip t.unknown) open_sound.closed open_sound.acyclic (vectors_in c.file) (λ f. opened_fault chip t.unknown (at_site (sites_of n chains) f))
        (universe_of n) t.grades u.grades t.findings.are_grades
        (subst (λ (us : Unknowns). AllZip (IsOpenGrade n chains us (vectors_in c.file)) (universe_of n) u.grades) (sym unknown_same) u.findings.are_grades)

    evident_same : t.evident ≡ u.evident
    evident_same =
        let n = c.netlist in
        let are : Unknowns → Holds → Classes → Type 0 = λ us holds classes.
        AllZip (λ f one. IsTrue one ↔ HasClosed n (holds_at_zero us holds) c.evidence f) classes.representatives u.evident in
        marks_once (HasClosed n (holds_at_zero t.unknown t.holds) c.evidence) t.classes.representatives t.evident u.evident t.findings.are_evident
        (subst (λ (us : Unknowns). are us t.holds t.classes) (sym unknown_same) (subst (λ (hs : Holds). are u.unknown hs t.classes) (sym holds_same)
        (subst (λ (k : Classes). are u.unknown u.holds k) (sym classes_same) u.findings.are_evident)))

    claims_same : claims_in c t ≡ claims_in c u
    claims_same i = claims_of (evident_same i) (classes_same i).numbers (grades_same i)

    lines_same : lines_due c t ≡ lines_due c u
    lines_same i = claim_lines c.netlist (chip_in c) (universe_of c.netlist) (claims_same i)

    evidence_same : evident_in c t ≡ evident_in c u
    evidence_same i = marked (evident_same i) (classes_same i).representatives

-- ---- what is true of the claims excludes that a fault is named

front_get : {X : Type 0} (m : ℕ) (xs : List X) (k : ℕ) → k < m → slice_get (take m xs) k ≡ slice_get xs k
front_get zero xs k l = absurd (omega (arith, l))
front_get (suc m) [] k l = refl
front_get (suc m) (x ∷ xs) zero l = refl
front_get (suc m) (x ∷ xs) (suc k) l = front_get m xs k (omega (arith, l))

module _ (c : UnknownContents) (t : IsUnknownTested c) (are : AreTrueClaims c t) where
  none_named : (text : Text) → IsFalseClaim c t text → ⊥
  none_named text (inl other) = other.other (ap (λ (ls : List Text). slice_get ls other.place) are.lines)
  none_named text (inr (inl further)) =
      let past = slice_get_within c.said.lines (length (lines_due c t)) text further.further in
      let count = ap length are.lines in
      omega (arith, past, count)
  none_named text (inr (inr stray)) =
      let within = slice_get_within (faults_in c.evidence) stray.first.place stray.first.fault stray.first.at in
      let size : length (faults_in c.evidence) ≡ length c.evidence = length-map c.evidence (λ (p : Fault × Evidence). p.0) in
      stray.first.stray
      (sym (front_get (length c.evidence) (evident_in c t) stray.first.place (omega (arith, within, size)))
      ∙ (ap (λ (fs : List Fault). slice_get fs stray.first.place) are.evidence ∙ stray.first.at))

-- ---- good files

module _ (laws : Laws) (files : FiveFiles) (c : UnknownContents) (sound : IsSound c.netlist) (design : IsDesign c.netlist) (good : AreGoodUnknownFiles files c) where
  claims_true : (t : IsUnknownTested c) → AreTrueClaims c t
  claims_true t = record {
    lines = good.claims.lines ∙ sym (lines_same laws c sound design t good.tested);
    evidence = ap (take (length c.evidence)) (evidence_same laws c sound design t good.tested) ∙ good.claims.evidence;
  }

  totals_true : (t : IsUnknownTested c) → AreClaimTotals c t
  totals_true t = good.totals ∙ ap counts_of (sym (claims_same laws c sound design t good.tested))

  with_inputs : (unknown : Unknowns) (holds : Holds) → HasInputs c unknown holds → HasKnownTest c unknown holds
  with_inputs unknown holds is =
      let t = good.tested in
      subst (λ (us : Unknowns). HasKnownTest c us holds) (same_unknown laws c sound t.unknown unknown t.holds holds t.inputs is)
      (subst (λ (hs : Holds). HasKnownTest c t.unknown hs) (same_holds laws c sound t.unknown unknown t.holds holds t.inputs is) t.test)

  one_answer : (answer : Checked) → IsUnknownAnswer c answer → answer ≡ Faults (length (universe_of c.netlist))
  one_answer (False clause.ScanDiffers) is = absurd (is good.tested.scan)
  one_answer (False clause.HoldDiffers) is = absurd (is.1 good.tested.unknown good.tested.holds good.tested.inputs)
  one_answer (False clause.StilDiffers) is = absurd (is.1.3 (with_inputs is.1.0 is.1.1 is.1.2))
  one_answer (False (clause.Fault text)) is = absurd (none_named c is.0 (claims_true is.0) text.items is.1)
  one_answer (False clause.TotalsDiffer) is = absurd (is.2 (totals_true is.0))
  one_answer (Faults count) is = ap Faults is.3

  one_contents : (d : UnknownContents) → StandForUnknown files d → d ≡ c
  one_contents d s =
      let own = good.stand in
      let net = same_net files.net d.netlist c.netlist s.net own.net in
      let file = laws.stil files.stil d.file c.file s.stil own.stil in
      let said = laws.report d.said c.said s.is_report own.is_report (sym s.report ∙ own.report) in
      let evidence = laws.certificate c.netlist files.certificate d.evidence c.evidence sound
      (subst (λ (m : Netlist). IsCertificate m files.certificate d.evidence) net s.certificate) own.certificate in
      let scan = sym s.scan ∙ own.scan in
      λ i. record { netlist = net i; scan = scan i; file = file i; evidence = evidence i; said = said i }

  pub passes : (answer : Result Checked CheckFault) → IsUnknownChecked files answer → (answer ≡ Err fault.NoMemory) ⊎ (answer ≡ Ok (Faults (length (universe_of c.netlist))))
  passes (Ok answer) is =
      let own : IsUnknownAnswer c answer = subst (λ (d : UnknownContents). IsUnknownAnswer d answer) (one_contents is.0 is.1) is.2 in
      inr (ap (λ (a : Checked). Ok a) (one_answer answer own))
  passes (Err (fault.Netlist refusal)) is = absurd (read_once Design files.net c.netlist refusal good.stand.net is)
  passes (Err fault.NotStil) is = absurd (is.2 c.file good.stand.stil)
  passes (Err fault.NotCertificate) is =
      absurd (is.4 c.evidence (subst (λ (m : Netlist). IsCertificate m files.certificate c.evidence) (same_net files.net c.netlist is.0 good.stand.net is.2) good.stand.certificate))
  passes (Err fault.NotReport) is = absurd (is.6 c.said good.stand.is_report good.stand.report)
  passes (Err fault.NoMemory) is = inl refl
