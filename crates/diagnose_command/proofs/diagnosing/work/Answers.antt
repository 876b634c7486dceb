use Rattle.diagnose_command.proofs.DiagnoseLemmas.{case_stopped, case_worked}
use Rattle.diagnose_command.proofs.diagnosing.work.Goals as goal

pub returns-in-Ok : goal.returns-in-Ok
returns-in-Ok g c =
    case_worked c.args.options.chains c.args.options.rank c.args.texts.items c.index.result.now c.index-2.result.now c.index-3.result.now _ _ _ c.requires.count c.index.ensures c.index-2.ensures c.index-3.ensures
    c.as_slice-net.result.now c.as_slice-stil.result.now c.as_slice-log.result.now c.as_slice-net.ensures.value c.as_slice-stil.ensures.value c.as_slice-log.ensures.value
    c.in-Ok.case 0 c.diagnosed.result (c.in-Ok.ensures c.args.options.chains c.args.options.rank) c.diagnosed.ensures

pub returns-in-Err : goal.returns-in-Err
returns-in-Err g c =
    case_stopped c.args.options.chains c.args.options.rank c.args.texts.items c.index.result.now c.index-2.result.now c.index-3.result.now _ _ _ c.requires.count c.index.ensures c.index-2.ensures c.index-3.ensures
    c.as_slice-net.result.now c.as_slice-stil.result.now c.as_slice-log.result.now c.as_slice-net.ensures.value c.as_slice-stil.ensures.value c.as_slice-log.ensures.value
    0 c.in-Err.stop (c.in-Err.ensures c.args.options.chains c.args.options.rank)

pub diagnosed-requires-clause-design : goal.diagnosed-requires-clause-design
diagnosed-requires-clause-design g c κs within = (c.in-Ok.ensures c.args.options.chains c.args.options.rank).design

pub diagnosed-requires-clause-some : goal.diagnosed-requires-clause-some
diagnosed-requires-clause-some g c κs within = c.requires.range.chains.0
