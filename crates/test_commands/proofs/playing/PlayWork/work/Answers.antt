use Rattle.std.proofs.Common.{option_map}
use Rattle.test_commands.proofs.PlayLemmas.{trial_stopped, trial_worked}
use Rattle.test_commands.proofs.playing.PlayWork.work.Goals as goal

pub returns-in-Ok : goal.returns-in-Ok
returns-in-Ok c =
    trial_worked (option_map (λ t. t.now) c.args.self.now.fault) c.args.texts.items c.index.result.now c.index-2.result.now _ _ c.requires.count c.index.ensures c.index-2.ensures
    c.as_slice-net.result.now c.as_slice-stil.result.now c.in-Ok.trial 0 c.tried.result c.as_slice-net.ensures.value c.as_slice-stil.ensures.value c.in-Ok.ensures c.tried.ensures

pub returns-in-Err : goal.returns-in-Err
returns-in-Err c =
    trial_stopped (option_map (λ t. t.now) c.args.self.now.fault) c.args.texts.items c.index.result.now c.index-2.result.now _ _ c.requires.count c.index.ensures c.index-2.ensures
    c.as_slice-net.result.now c.as_slice-stil.result.now 0 c.in-Err.stop c.as_slice-net.ensures.value c.as_slice-stil.ensures.value c.in-Err.ensures
