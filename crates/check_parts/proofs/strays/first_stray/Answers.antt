use Rattle.check_parts.proofs.StrayLemmas.{in_order}
use Rattle.check_parts.proofs.strays.first_stray.Goals as goal

pub loop-k-preserved : goal.loop-k-preserved
loop-k-preserved c =
    in_order c.args.evidence.now c.args.left.now c.loop-k.k c.index-evidence-k.result c.loop-k-test.true c.index-evidence-k.is c.loop-k.invariant
    c.index-left-k.result c.if-k-left.false c.index-left-k.is c.if-not-is_fault.ensures
