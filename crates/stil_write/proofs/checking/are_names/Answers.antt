use Rattle.std.proofs.Common.{arith}
use Rattle.stil_write.specs.StilFiles.{IsStilName}
use Rattle.stil_write.proofs.LoopLemmas.{all_at_end, all_more}
use Rattle.stil_write.proofs.checking.are_names.Goals as goal

pub loop-place-preserved : goal.loop-place-preserved
loop-place-preserved c =
    all_more IsStilName c.args.texts.now c.loop-place.place c.get.result.now c.get.ensures c.loop-place.invariant c.if-not-is_name.ensures

pub returns : goal.returns
returns c = all_at_end IsStilName c.args.texts.now c.loop-place.place (omega arith) c.loop-place.invariant
