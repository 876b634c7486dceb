use Rattle.fewer_patterns.proofs.Joining.{unsettled_all, unsettled_more}
use Rattle.fewer_patterns.proofs.fronts.unsettled.Goals as goal

pub loop-k-preserved : goal.loop-k-preserved
loop-k-preserved c =
    unsettled_more c.args.start c.args.last.now c.loop-k.k c.loop-k.told.items c.push_unsettled.new.told.items c.loop-k-test.true c.loop-k.invariant c.in_ok-push_unsettled.ensures

pub returns : goal.returns
returns c = unsettled_all c.args.start c.args.last.now c.loop-k.k c.loop-k.told.items c.loop-k-test.false c.loop-k.invariant
