use Rattle.std.proofs.Common.{Err, subst, ap, ◌∙◌}
use Rattle.statement.specs.Netlists.{Netlist}
use Rattle.scan_insert.specs.Scanned.{Insertion, scanned_of}
use Rattle.good_files.specs.ScanOff.{design_chains}
use Rattle.stil_vectors.specs.Fitting.{FitsNetlist}
use Rattle.command_steps.specs.Steps.{test}
use Rattle.diagnose_command.specs.inner.Cases.{diagnosis_due}
use Rattle.command_steps.specs.declared.refusal.Refusal.TheVariants.{StilDoesNotFit}
use Rattle.command_steps.specs.Answers.{Answers}
use Rattle.command_steps.proofs.StepLemmas.{stopped, then_worked}
use Rattle.diagnose_command.proofs.diagnosing.fitted.Goals as goal

pub returns-in-Ok : goal.returns-in-Ok
returns-in-Ok g c =
    let s = c.args.scanned.now in
    let n = s.case.now.netlist in
    let chains = design_chains n s.chains in
    let file = s.case.now.file in
    let is = c.netlist.ensures ∙ ap (λ (i : Insertion). i.netlist) c.requires.scanned.is_scanned in
    let fits = subst (λ (m : Netlist). FitsNetlist file m) is c.in-Ok.ensures in
    then_worked (test (FitsNetlist file (scanned_of n chains)) StilDoesNotFit) (λ _. diagnosis_due s.chains c.args.rank n file s.case.now.log) 0 tt c.product_of.result fits c.product_of.ensures

pub returns-in-Err : goal.returns-in-Err
returns-in-Err g c =
    let s = c.args.scanned.now in
    let n = s.case.now.netlist in
    let chains = design_chains n s.chains in
    let file = s.case.now.file in
    let is = c.netlist.ensures ∙ ap (λ (i : Insertion). i.netlist) c.requires.scanned.is_scanned in
    let refused : Answers (test (FitsNetlist file (scanned_of n chains)) StilDoesNotFit) (Err c.in-Err.stop) = subst (λ (m : Netlist). Answers (test (FitsNetlist file m) StilDoesNotFit) (Err c.in-Err.stop)) is c.in-Err.ensures in
    stopped (test (FitsNetlist file (scanned_of n chains)) StilDoesNotFit) (λ _. diagnosis_due s.chains c.args.rank n file s.case.now.log) 0 c.in-Err.stop refused
