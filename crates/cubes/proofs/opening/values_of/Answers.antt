use Rattle.cubes.proofs.OpenLemmas.{values_more}
use Rattle.cubes.proofs.opening.values_of.Goals as goal

pub loop-input-preserved : goal.loop-input-preserved
loop-input-preserved c =
    values_more c.args.holds.now c.loop-input.input c.loop-input.values.items c.push.new.self.items c.held.result c.value_of.result c.held.ensures c.value_of.ensures
    c.loop-input.invariant c.in_ok-push.ensures.items
