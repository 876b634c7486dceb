use Rattle.test_commands.proofs.GradeLemmas.{grade_stopped, grade_worked}
use Rattle.test_commands.proofs.grading.GradingWork.work.Goals as goal

pub returns-in-Ok : goal.returns-in-Ok
returns-in-Ok g c =
    grade_worked c.args.self.now.chains c.args.texts.items c.index.result.now c.index-2.result.now _ _ c.requires.count c.index.ensures c.index-2.ensures
    c.as_slice-net.result.now c.as_slice-stil.result.now c.in-Ok.trial c.tried-product.result c.as_slice-net.ensures.value c.as_slice-stil.ensures.value c.in-Ok.ensures c.tried-product.ensures

pub returns-in-Err : goal.returns-in-Err
returns-in-Err g c =
    grade_stopped c.args.self.now.chains c.args.texts.items c.index.result.now c.index-2.result.now _ _ c.requires.count c.index.ensures c.index-2.ensures
    c.as_slice-net.result.now c.as_slice-stil.result.now c.in-Err.stop c.as_slice-net.ensures.value c.as_slice-stil.ensures.value c.in-Err.ensures
