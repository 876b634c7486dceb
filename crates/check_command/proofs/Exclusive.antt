-- What is due of the same five texts is alike.
use Rattle.std.proofs.Common.{◌≡◌, inl, inr, [], ◌∷◌, Ok, Err, refl, sym, ap, subst}
use Rattle.commands.specs.Due.{Due, Deliver, Refuse}
use Rattle.commands.specs.Laws.{AreAlike, IsExclusive}
use Rattle.statement.specs.Statement.{FiveFiles}
use Rattle.good_files.specs.declared.answers.Checked.{Checked}
use Rattle.good_files.specs.declared.answers.Checked.TheVariants.{Faults, False}
use Rattle.good_files.specs.declared.answers.CheckFault.{CheckFault}
use Rattle.good_files.specs.declared.answers.CheckFault.TheVariants as fault
use Rattle.std.specs.Prelude.{Result}
use Rattle.good_files.specs.Laws.{AnswersAgree, AreConsistentAnswers}
use Rattle.good_slow_files.specs.Laws.{SlowAnswersAgree}
use Rattle.check_command.specs.Checking.{IsAnswerOf, answer_line, five_texts_due, fault_of, files_due, checked_finding}
use Rattle.check_command.specs.declared.refusal.CheckRefusal.{CheckRefusal}
use Rattle.check_command.specs.declared.refusal.CheckRefusal.TheVariants as refusal

-- what is due is given whole
given : (c d x y : Due CheckRefusal) → c ≡ x → d ≡ y → AreAlike x y → AreAlike c d
given c d x y is also h = subst (λ (z : Due CheckRefusal). AreAlike z d) (sym is) (subst (λ (z : Due CheckRefusal). AreAlike x z) (sym also) h)

same_finding : (a b : Checked) → AreConsistentAnswers (Ok a) (Ok b) → checked_finding a ≡ checked_finding b
same_finding (Faults m) (Faults k) alike = refl
same_finding (Faults m) (False c) alike = absurd alike
same_finding (False c) (Faults k) alike = absurd alike
same_finding (False c) (False d) alike = refl

-- texts that are answered aren't refused
not_behind : (a : Checked) (why : CheckRefusal) → AreConsistentAnswers (Ok a) (Err (fault_of why)) → ⊥
not_behind a (refusal.Netlist why) alike = alike
not_behind a refusal.NotStil alike = alike
not_behind a refusal.NotCertificate alike = alike
not_behind a refusal.NotReport alike = alike

-- the refusal that is told so; want of memory is none
told_by : CheckFault → CheckRefusal
told_by (fault.Netlist why) = refusal.Netlist why
told_by fault.NotStil = refusal.NotStil
told_by fault.NotCertificate = refusal.NotCertificate
told_by fault.NotReport = refusal.NotReport
told_by fault.NoMemory = refusal.NotReport

same_refusal : (why other : CheckRefusal) → AreConsistentAnswers (Err (fault_of why)) (Err (fault_of other)) → why ≡ other
unfolding told_by
same_refusal (refusal.Netlist why) (refusal.Netlist other) alike = ap told_by alike
same_refusal (refusal.Netlist why) refusal.NotStil alike = ap told_by alike
same_refusal (refusal.Netlist why) refusal.NotCertificate alike = ap told_by alike
same_refusal (refusal.Netlist why) refusal.NotReport alike = ap told_by alike
same_refusal refusal.NotStil (refusal.Netlist other) alike = ap told_by alike
same_refusal refusal.NotStil refusal.NotStil alike = refl
same_refusal refusal.NotStil refusal.NotCertificate alike = ap told_by alike
same_refusal refusal.NotStil refusal.NotReport alike = ap told_by alike
same_refusal refusal.NotCertificate (refusal.Netlist other) alike = ap told_by alike
same_refusal refusal.NotCertificate refusal.NotStil alike = ap told_by alike
same_refusal refusal.NotCertificate refusal.NotCertificate alike = refl
same_refusal refusal.NotCertificate refusal.NotReport alike = ap told_by alike
same_refusal refusal.NotReport (refusal.Netlist other) alike = ap told_by alike
same_refusal refusal.NotReport refusal.NotStil alike = ap told_by alike
same_refusal refusal.NotReport refusal.NotCertificate alike = ap told_by alike
same_refusal refusal.NotReport refusal.NotReport alike = refl

-- by either check the same files are answered alike
answers_alike : AnswersAgree → SlowAnswersAgree → (files : FiveFiles) (a b : Result Checked CheckFault) → IsAnswerOf files a → IsAnswerOf files b → AreConsistentAnswers a b
answers_alike stuck slow files a b (inl p) (inl q) = slow files a b p.1 q.1
answers_alike stuck slow files a b (inl p) (inr q) = absurd (q.0 p.0)
answers_alike stuck slow files a b (inr p) (inl q) = absurd (p.0 q.0)
answers_alike stuck slow files a b (inr p) (inr q) = stuck files a b p.1 q.1

module _ (stuck : AnswersAgree) (slow : SlowAnswersAgree) (files : FiveFiles) where
  agree : (a b : Result Checked CheckFault) → IsAnswerOf files a → IsAnswerOf files b → AreConsistentAnswers a b
  agree = answers_alike stuck slow files

  alike : (c d : Due CheckRefusal) → files_due files c → files_due files d → AreAlike c d
  alike c d (inl p) (inl q) =
      given c d (Deliver [] (answer_line p.0) (checked_finding p.0)) (Deliver [] (answer_line q.0) (checked_finding q.0)) p.2 q.2
      (same_finding p.0 q.0 (agree (Ok p.0) (Ok q.0) p.1 q.1))
  alike c d (inl p) (inr q) = absurd (not_behind p.0 q.0 (agree (Ok p.0) (Err (fault_of q.0)) p.1 q.1))
  alike c d (inr p) (inl q) = absurd (not_behind q.0 p.0 (agree (Ok q.0) (Err (fault_of p.0)) q.1 p.1))
  alike c d (inr p) (inr q) =
      given c d (Refuse p.0) (Refuse q.0) p.2 q.2 (same_refusal p.0 q.0 (agree (Err (fault_of p.0)) (Err (fault_of q.0)) p.1 q.1))

pub check_exclusive : AnswersAgree → SlowAnswersAgree → IsExclusive five_texts_due
check_exclusive stuck slow [] c d p q = absurd p
check_exclusive stuck slow (net ∷ []) c d p q = absurd p
check_exclusive stuck slow (net ∷ scan ∷ []) c d p q = absurd p
check_exclusive stuck slow (net ∷ scan ∷ stil ∷ []) c d p q = absurd p
check_exclusive stuck slow (net ∷ scan ∷ stil ∷ certificate ∷ []) c d p q = absurd p
check_exclusive stuck slow (net ∷ scan ∷ stil ∷ certificate ∷ report ∷ []) c d p q =
    let files : FiveFiles = record { net = net; scan = scan; stil = stil; certificate = certificate; report = report } in alike stuck slow files c d p q
check_exclusive stuck slow (net ∷ scan ∷ stil ∷ certificate ∷ report ∷ more ∷ others) c d p q = absurd p
