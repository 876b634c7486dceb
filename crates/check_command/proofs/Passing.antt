-- Good files are checked.
use Rattle.std.proofs.Common.{◌≡◌, ◌∙◌, ◌⊎◌, inl, inr, ℕ, zero, suc, List, [], ◌∷◌, ◌++◌, Ok, Err, refl, sym, ap, get_or, length, codes, arith}
use Rattle.std.specs.Prelude.{Result}
use Rattle.netlist.specs.Conditions.{IsSound}
use Rattle.netlist.specs.Designs.{IsDesign}
use Rattle.statement.specs.Benches.{Text}
use Rattle.statement.specs.Netlists.{Netlist}
use Rattle.statement.specs.Faults.{universe_of}
use Rattle.commands.specs.Due.{Due, Deliver}
use Rattle.commands.specs.declared.ending.Finding.TheVariants.{Fine}
use Rattle.good_files.specs.GoodFiles.{AreGoodFiles, Contents}
use Rattle.statement.specs.Statement.{FiveFiles}
use Rattle.good_files.specs.declared.answers.Checked.{Checked}
use Rattle.good_files.specs.declared.answers.Checked.TheVariants.{Faults}
use Rattle.good_files.specs.declared.answers.CheckFault.{CheckFault}
use Rattle.good_files.specs.declared.answers.CheckFault.TheVariants as fault
use Rattle.good_files.specs.Checks.{IsChecked}
use Rattle.good_files.specs.Laws.{GoodFilesPass, IsWholeAnswer}
use Rattle.good_slow_files.specs.GoodSlowFiles.{AreGoodSlowFiles, SlowContents}
use Rattle.good_slow_files.specs.Checks.{IsSlowChecked}
use Rattle.good_slow_files.specs.Laws.{GoodSlowFilesPass, IsWholeSlowAnswer}
use Rattle.report.specs.Reports.{Hold}
use Rattle.report.specs.Texts.{head, report_text}
use Rattle.transition_report.specs.declared.reporting.TransitionReport.{TransitionReport}
use Rattle.transition_report.specs.Texts.{transition_head, transition_report_text}
use Rattle.check_command.specs.Checking.{IsAnswerOf, answer_line, checked_line, fault_of, files_due, checked_finding}
use Rattle.check_command.specs.declared.refusal.CheckRefusal.{CheckRefusal}
use Rattle.check_command.specs.declared.refusal.CheckRefusal.TheVariants as refusal

-- an answer that is want of memory or this one is this one
answer_is : (r : Result Checked CheckFault) (answer : Checked) (count : ℕ) → r ≡ Ok answer → (r ≡ Err fault.NoMemory) ⊎ (r ≡ Ok (Faults count)) → answer ≡ Faults count
answer_is r answer count is (inl none) = cc
answer_is r answer count is (inr one) = cc

-- a refusal is neither
no_refusal : (r : Result Checked CheckFault) (why : CheckRefusal) (answer : Checked) → r ≡ Err (fault_of why) → (r ≡ Err fault.NoMemory) ⊎ (r ≡ Ok answer) → ⊥
no_refusal r (refusal.Netlist why) answer is (inl none) = cc
no_refusal r refusal.NotStil answer is (inl none) = cc
no_refusal r refusal.NotCertificate answer is (inl none) = cc
no_refusal r refusal.NotReport answer is (inl none) = cc
no_refusal r why answer is (inr one) = cc

-- what is due where all answers are of one kind
due_of : (files : FiveFiles) (count : ℕ) → ((answer : Result Checked CheckFault) → IsAnswerOf files answer → (answer ≡ Err fault.NoMemory) ⊎ (answer ≡ Ok (Faults count)))
    → (d : Due CheckRefusal) → files_due files d → d ≡ Deliver [] (checked_line count) Fine
due_of files count pass d (inl due) =
    due.2 ∙ ap (λ (answer : Checked). let told : Due CheckRefusal = Deliver [] (answer_line answer) (checked_finding answer) in told)
    (answer_is (Ok due.0) due.0 count refl (pass (Ok due.0) due.1))
due_of files count pass d (inr due) = absurd (no_refusal (Err (fault_of due.0)) due.0 (Faults count) refl (pass (Err (fault_of due.0)) due.1))

-- a report of stuck lines begins otherwise
begins_other : (most unasked : ℕ) (holds : List Hold) (x y : Text) → head most unasked holds ++ x ≡ codes "atpg transition " ++ y → ⊥
begins_other zero zero [] x y e = let c : 114 ≡ 116 = ap (λ (t : List ℕ). get_or t 5 0) e in absurd (omega (arith, c))
begins_other zero zero (h ∷ hs) x y e = let c : 114 ≡ 116 = ap (λ (t : List ℕ). get_or t 5 0) e in absurd (omega (arith, c))
begins_other zero (suc k) holds x y e = let c : 114 ≡ 116 = ap (λ (t : List ℕ). get_or t 5 0) e in absurd (omega (arith, c))
begins_other (suc m) k holds x y e = let c : 114 ≡ 116 = ap (λ (t : List ℕ). get_or t 5 0) e in absurd (omega (arith, c))

-- a report of slow lines begins so, of either version
begins_slow : (holds : List Hold) (x : Text) → (rest : Text) × (transition_head holds ++ x ≡ codes "atpg transition " ++ rest)
begins_slow [] x = (codes "1\n" ++ x, refl)
begins_slow (h ∷ hs) x = (codes "2\n" ++ x, refl)

slow_report_begins : (r : TransitionReport) → (rest : Text) × (transition_report_text r ≡ codes "atpg transition " ++ rest)
slow_report_begins r = begins_slow r.holds _

whole : (files : FiveFiles) (answer : Result Checked CheckFault) → IsWholeAnswer files answer → IsChecked files answer
whole files (Ok answer) is = is.0
whole files (Err refusal) is = is

whole_slow : (files : FiveFiles) (answer : Result Checked CheckFault) → IsWholeSlowAnswer files answer → IsSlowChecked files answer
whole_slow files (Ok answer) is = is.0
whole_slow files (Err refusal) is = is

module _ (pass : GoodFilesPass) (files : FiveFiles) (c : Contents) (sound : IsSound c.netlist) (good : AreGoodFiles files c) where
  by_check : (answer : Result Checked CheckFault) → IsAnswerOf files answer → (answer ≡ Err fault.NoMemory) ⊎ (answer ≡ Ok (Faults (length (universe_of c.netlist))))
  by_check answer (inl slow) =
      let begins : report_text c.said ≡ codes "atpg transition " ++ slow.0.0 = sym good.stand.report ∙ slow.0.1 in
      absurd (begins_other c.said.times.most c.said.counts.unasked c.said.holds _ slow.0.0 begins)
  by_check answer (inr stuck) = pass files c sound good answer (whole files answer stuck.1)

  pub checked : (d : Due CheckRefusal) → files_due files d → d ≡ Deliver [] (checked_line (length (universe_of c.netlist))) Fine
  checked = due_of files (length (universe_of c.netlist)) by_check

module _ (pass : GoodSlowFilesPass) (files : FiveFiles) (c : SlowContents) (sound : IsSound c.netlist) (design : IsDesign c.netlist) (good : AreGoodSlowFiles files c) where
  by_slow_check : (answer : Result Checked CheckFault) → IsAnswerOf files answer → (answer ≡ Err fault.NoMemory) ⊎ (answer ≡ Ok (Faults (length (universe_of c.netlist))))
  by_slow_check answer (inl slow) = pass files c sound design good answer (whole_slow files answer slow.1)
  by_slow_check answer (inr stuck) =
      let begins = slow_report_begins c.said in
      absurd (stuck.0 (begins.0, good.stand.report ∙ begins.1))

  pub slow_checked : (d : Due CheckRefusal) → files_due files d → d ≡ Deliver [] (checked_line (length (universe_of c.netlist))) Fine
  slow_checked = due_of files (length (universe_of c.netlist)) by_slow_check
