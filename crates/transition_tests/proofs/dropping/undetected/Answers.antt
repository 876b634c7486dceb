use Rattle.transition_tests.proofs.BatchLemmas.{undetected_more}
use Rattle.transition_tests.proofs.dropping.undetected.Goals as goal

pub loop-l-preserved : goal.loop-l-preserved
loop-l-preserved c =
    undetected_more c.args.last.now c.loop-l.l-index _ c.loop-l.left.items c.push.new.self.items c.is_none.result c.loop-l-test.true c.is_none.ensures
    c.loop-l.invariant c.in_ok-push.ensures.items
