use Rattle.std.proofs.Common.{Err, subst, ap, ◌∙◌}
use Rattle.statement.specs.Netlists.{Netlist}
use Rattle.scan_insert.specs.Scanned.{Insertion, scanned_of}
use Rattle.good_files.specs.ScanOff.{design_chains}
use Rattle.stil_vectors.specs.Fitting.{FitsNetlist}
use Rattle.command_steps.specs.Steps.{test}
use Rattle.command_steps.specs.declared.refusal.Refusal.TheVariants.{StilDoesNotFit}
use Rattle.command_steps.specs.Answers.{Answers}
use Rattle.test_commands.specs.inner.GradeTrials.{graded_due}
use Rattle.command_steps.proofs.StepLemmas.{stopped, then_worked}
use Rattle.test_commands.proofs.grading.fitted.Goals as goal

pub returns-in-Ok : goal.returns-in-Ok
returns-in-Ok g c =
    let n = c.args.trial.now.netlist in
    let chains = design_chains n c.args.asked in
    let file = c.args.trial.now.file in
    let is = c.netlist.ensures ∙ ap (λ (s : Insertion). s.netlist) c.requires.is_scanned in
    let fits = subst (λ (m : Netlist). FitsNetlist file m) is c.in-Ok.ensures in
    then_worked (test (FitsNetlist file (scanned_of n chains)) StilDoesNotFit) (λ _. graded_due c.args.asked n file) 1 tt c.graded.result fits c.graded.ensures

pub returns-in-Err : goal.returns-in-Err
returns-in-Err g c =
    let n = c.args.trial.now.netlist in
    let chains = design_chains n c.args.asked in
    let file = c.args.trial.now.file in
    let is = c.netlist.ensures ∙ ap (λ (s : Insertion). s.netlist) c.requires.is_scanned in
    let refused : Answers (test (FitsNetlist file (scanned_of n chains)) StilDoesNotFit) (Err c.in-Err.stop) = subst (λ (m : Netlist). Answers (test (FitsNetlist file m) StilDoesNotFit) (Err c.in-Err.stop)) is c.in-Err.ensures in
    stopped (test (FitsNetlist file (scanned_of n chains)) StilDoesNotFit) (λ _. graded_due c.args.asked n file) 1 c.in-Err.stop refused
