use Rattle.std.proofs.Common.{ap, subst, ◌∙◌}
use Rattle.netlist.specs.Conditions.{IsSound}
use Rattle.statement.specs.Netlists.{Netlist}
use Rattle.good_files.specs.ScanOff.{design_chains}
use Rattle.scan_insert.specs.Scanned.{Insertion, scanned_of}
use Rattle.stil_vectors.specs.Fitting.{FitsNetlist}
use Rattle.command_steps.specs.Steps.{test}
use Rattle.command_steps.specs.declared.refusal.Refusal.TheVariants.{StilDoesNotFit}
use Rattle.test_commands.specs.inner.ChainTrials.{told_due}
use Rattle.test_commands.proofs.ChainTestLemmas.{hardware_signals, told_as}
use Rattle.command_steps.proofs.StepLemmas.{then_worked}
use Rattle.test_commands.proofs.chain_testing.fitted.Goals as goal

pub tested-requires-clause-signals : goal.tested-requires-clause-signals
tested-requires-clause-signals g c =
    hardware_signals c.faults_have_signals.ensures c.args.trial.now.netlist (design_chains c.args.trial.now.netlist c.args.asked) c.args.hardware.now c.requires.hardware
    (subst IsSound c.netlist.ensures c.sound-2.ensures)

pub returns-in-Ok : goal.returns-in-Ok
returns-in-Ok g c =
    let n = c.args.trial.now.netlist in
    let file = c.args.trial.now.file in
    let chains = design_chains n c.args.asked in
    let scanned = c.netlist-2.ensures ∙ ap (λ (i : Insertion). i.netlist) c.requires.hardware.scanned in
    then_worked (test (FitsNetlist file (scanned_of n chains)) StilDoesNotFit) (λ _. told_due n chains file) 0 tt c.tested.result
    (subst (λ (m : Netlist). FitsNetlist file m) scanned c.in-Ok.ensures)
    (told_as c.flush_fails.ensures n c.sound.ensures c.args.asked c.requires.some file c.args.hardware.now c.requires.hardware c.tested.result c.tested.ensures)
