-- Two answers to the same files of tests with unknown inputs agree.
use Rattle.std.proofs.Common.{◌≡◌, ℕ, ◌∙◌, inl, inr, Ok, Err, refl, sym, ap, subst}
use Rattle.std.specs.Prelude.{Result, length}
use Rattle.statement.specs.Netlists.{Netlist}
use Rattle.bench_text.specs.declared.refusal.BenchRefusal.{BenchRefusal}
use Rattle.bench_text.specs.declared.refusal.Names.TheVariants.{Design}
use Rattle.certificate.specs.Certificates.{IsCertificate}
use Rattle.statement.specs.Faults.{universe_of}
use Rattle.statement.specs.Statement.{FiveFiles}
use Rattle.good_files.specs.declared.answers.Checked.{Checked}
use Rattle.good_files.specs.declared.answers.Checked.TheVariants.{Faults, False}
use Rattle.good_files.specs.declared.answers.CheckFault.{CheckFault}
use Rattle.good_files.specs.declared.answers.CheckFault.TheVariants as fault
use Rattle.good_unknown_files.specs.Checks.{ArePassedUnknown, IsUnknownChecked, IsUnknownOutside}
use Rattle.good_files.specs.Laws.{AreConsistentAnswers}
use Rattle.good_unknown_files.specs.Laws.{GoodUnknownFilesPass, IsWholeUnknownAnswer}
use Rattle.good_files.proofs.FirstOnLoop.{read_once, refusals_alike}
use Rattle.good_files.proofs.Passing.{same_net}

module _ (files : FiveFiles) where
  -- what is answered isn't outside its grammar
  answered : (answer : Checked) (r : CheckFault) → IsUnknownChecked files (Ok answer) → IsUnknownOutside files r → r ≡ fault.NoMemory
  answered answer (fault.Netlist refusal) is out = absurd (read_once Design files.net is.0.netlist refusal is.1.net out)
  answered answer fault.NotStil is out = absurd (out.2 is.0.file is.1.stil)
  answered answer fault.NotCertificate is out =
      absurd (out.4 is.0.evidence (subst (λ (n : Netlist). IsCertificate n files.certificate is.0.evidence) (same_net files.net is.0.netlist out.0 is.1.net out.2) is.1.certificate))
  answered answer fault.NotReport is out = absurd (out.6 is.0.said is.1.is_report is.1.report)
  answered answer fault.NoMemory is out = refl

  beside : (answer : Checked) (r : CheckFault) → IsUnknownChecked files (Ok answer) → IsUnknownOutside files r → AreConsistentAnswers (Ok answer) (Err r)
  beside answer r is out = subst (λ (f : CheckFault). AreConsistentAnswers (Ok answer) (Err f)) (sym (answered answer r is out)) tt

  before : (answer : Checked) (r : CheckFault) → IsUnknownChecked files (Ok answer) → IsUnknownOutside files r → AreConsistentAnswers (Err r) (Ok answer)
  before answer r is out = subst (λ (f : CheckFault). AreConsistentAnswers (Err f) (Ok answer)) (sym (answered answer r is out)) tt

  -- texts that are refused are refused alike
  refused : (r s : CheckFault) → IsUnknownOutside files r → IsUnknownOutside files s → AreConsistentAnswers (Err r) (Err s)
  refused fault.NoMemory s a b = tt
  refused (fault.Netlist p) fault.NoMemory a b = tt
  refused fault.NotStil fault.NoMemory a b = tt
  refused fault.NotCertificate fault.NoMemory a b = tt
  refused fault.NotReport fault.NoMemory a b = tt
  refused (fault.Netlist p) (fault.Netlist q) a b = ap (λ (x : BenchRefusal). fault.Netlist x) (refusals_alike Design files.net p q a b)
  refused (fault.Netlist p) fault.NotStil a b = absurd (read_once Design files.net b.0 p b.1 a)
  refused (fault.Netlist p) fault.NotCertificate a b = absurd (read_once Design files.net b.0 p b.2 a)
  refused (fault.Netlist p) fault.NotReport a b = absurd (read_once Design files.net b.0 p b.3 a)
  refused fault.NotStil (fault.Netlist q) a b = absurd (read_once Design files.net a.0 q a.1 b)
  refused fault.NotStil fault.NotStil a b = refl
  refused fault.NotStil fault.NotCertificate a b = absurd (a.2 b.1 b.3)
  refused fault.NotStil fault.NotReport a b = absurd (a.2 b.1 b.4)
  refused fault.NotCertificate (fault.Netlist q) a b = absurd (read_once Design files.net a.0 q a.2 b)
  refused fault.NotCertificate fault.NotStil a b = absurd (b.2 a.1 a.3)
  refused fault.NotCertificate fault.NotCertificate a b = refl
  refused fault.NotCertificate fault.NotReport a b = absurd (a.4 b.2 (subst (λ (n : Netlist). IsCertificate n files.certificate b.2) (same_net files.net b.0 a.0 b.3 a.2) b.5))
  refused fault.NotReport (fault.Netlist q) a b = absurd (read_once Design files.net a.0 q a.3 b)
  refused fault.NotReport fault.NotStil a b = absurd (b.2 a.1 a.4)
  refused fault.NotReport fault.NotCertificate a b = absurd (b.4 a.2 (subst (λ (n : Netlist). IsCertificate n files.certificate a.2) (same_net files.net a.0 b.0 a.3 b.2) a.5))
  refused fault.NotReport fault.NotReport a b = refl

  -- what passes is passed by each check
  passed_alone : GoodUnknownFilesPass → (p : ArePassedUnknown files) (a : Checked) → IsUnknownChecked files (Ok a) → a ≡ Faults (length (universe_of p.contents.netlist))
  passed_alone pass p a is = elim (pass files p.contents p.sound p.design p.good (Ok a) is) [
    | inl none ↦ cc
    | inr one ↦ cc
  ]

  passed : GoodUnknownFilesPass → (m : ℕ) (b : Checked) → ArePassedUnknown files → IsUnknownChecked files (Ok (Faults m)) → IsUnknownChecked files (Ok b) → b ≡ Faults m
  passed pass m b p is also = passed_alone pass p b also ∙ sym (passed_alone pass p (Faults m) is)

  pub agree : GoodUnknownFilesPass → (a b : Result Checked CheckFault) → IsWholeUnknownAnswer files a → IsWholeUnknownAnswer files b → AreConsistentAnswers a b
  agree pass (Err r) (Err s) is also = refused r s is also
  agree pass (Err r) (Ok b) is also = before b r also.0 is
  agree pass (Ok a) (Err s) is also = beside a s is.0 also
  agree pass (Ok (Faults m)) (Ok b) is also = subst (λ (c : Checked). AreConsistentAnswers (Ok (Faults m)) (Ok c)) (sym (passed pass m b is.1 is.0 also.0)) refl
  agree pass (Ok (False c)) (Ok (Faults k)) is also = subst (λ (d : Checked). AreConsistentAnswers (Ok d) (Ok (Faults k))) (sym (passed pass k (False c) also.1 also.0 is.0)) refl
  agree pass (Ok (False c)) (Ok (False d)) is also = tt
