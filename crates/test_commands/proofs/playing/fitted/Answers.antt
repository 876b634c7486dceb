use Rattle.stil_vectors.specs.Fitting.{FitsNetlist}
use Rattle.command_steps.specs.Steps.{test}
use Rattle.test_commands.specs.inner.Trials.{answer_due}
use Rattle.command_steps.specs.declared.refusal.Refusal.TheVariants.{StilDoesNotFit}
use Rattle.command_steps.proofs.StepLemmas.{stopped, then_worked}
use Rattle.test_commands.proofs.playing.fitted.Goals as goal

pub returns-in-Ok : goal.returns-in-Ok
returns-in-Ok c =
    let n = c.args.netlist in
    let file = c.args.file.now in
    then_worked (test (FitsNetlist file n) StilDoesNotFit) (λ _. answer_due n c.args.fault file) 0 tt c.played.result c.in-Ok.ensures c.played.ensures

pub returns-in-Err : goal.returns-in-Err
returns-in-Err c =
    let n = c.args.netlist in
    let file = c.args.file.now in
    stopped (test (FitsNetlist file n) StilDoesNotFit) (λ _. answer_due n c.args.fault file) 0 c.in-Err.stop c.in-Err.ensures
