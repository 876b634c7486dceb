use Rattle.std.proofs.Common.{take}
use Rattle.diagnose.proofs.CutLemmas.{more_cycles}
use Rattle.diagnose.proofs.cutting.first_cycles.Goals as goal

pub loop-burst-preserved : goal.loop-burst-preserved
loop-burst-preserved c =
    more_cycles c.loop-burst.bursts.items c.push.new.self.items c.bursts-burst-items.result.now c.loop-burst.burst-index c.loop-burst.left c.part_of-part.result c.burst-item.result
    c.in_ok-first_of.field-0 (take c.args.count c.args.vectors.now) c.loop-burst-test.true c.burst-item.is c.part_of-part.ensures.within c.part_of-part.ensures.few c.part_of-part.ensures.all
    c.in_ok-first_of.ensures c.in_ok-push.ensures.items c.loop-burst.invariant
