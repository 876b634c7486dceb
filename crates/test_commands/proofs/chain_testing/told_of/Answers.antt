use Rattle.std.proofs.Common.{List, subst, sym}
use Rattle.std.specs.List.{All, AllZip}
use Rattle.std.proofs.lemmas.Result.{IfOk-weaker}
use Rattle.chain_test.specs.FirstWrong.{IsFirstWrong}
use Rattle.statement.specs.Runs.{Cycle}
use Rattle.scan_play.specs.Cycles.{IsCycleOf}
use Rattle.statement.specs.Tests.{vectors_in}
use Rattle.test_commands.proofs.ChainTestLemmas.{all_outputs, all_told}
use Rattle.test_commands.proofs.chain_testing.told_of.Goals as goal

pub first_wrongs-requires-clause-fits : goal.first_wrongs-requires-clause-fits
first_wrongs-requires-clause-fits g c =
    let fit = c.fitting_cycles.ensures c.args.file.now c.args.core.now c.sound-2.ensures c.requires in
    subst (λ (cycles : List Cycle). All (IsCycleOf c.args.core.now) cycles) (sym c.in_ok-vectors.ensures) fit

pub returns-clause-told : goal.returns-clause-told
returns-clause-told g c =
    let n = c.args.core.now in
    let sound = rw c.netlist.ensures at c.sound.ensures in
    IfOk-weaker c.first_wrongs.result _ _
    (λ told h. all_told c.first_wrong_fails.ensures n sound (vectors_in c.args.file.now) c.args.faults.now told.items
    (subst (λ (cycles : List Cycle). AllZip (λ g t. IsFirstWrong n g cycles t) c.args.faults.now told.items) c.in_ok-vectors.ensures h)) c.first_wrongs.ensures

pub returns-clause-outputs : goal.returns-clause-outputs
returns-clause-outputs g c =
    let n = c.args.core.now in
    let fit = c.fitting_cycles.ensures c.args.file.now n c.sound-2.ensures c.requires in
    IfOk-weaker c.first_wrongs.result _ _
    (λ told h. all_outputs n (vectors_in c.args.file.now) fit c.args.faults.now told.items
    (subst (λ (cycles : List Cycle). AllZip (λ g t. IsFirstWrong n g cycles t) c.args.faults.now told.items) c.in_ok-vectors.ensures h)) c.first_wrongs.ensures
