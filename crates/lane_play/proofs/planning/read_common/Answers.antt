use Rattle.std.proofs.Common.{◌<◌, List, length, get_or, subst, arith}
use Rattle.std.proofs.lemmas.List.{get_or_default, take_all}
use Rattle.lane_play.specs.declared.packed.Lanes.{Lanes}
use Rattle.lane_play.specs.inner.Lanes.{unknown}
use Rattle.lane_play.specs.inner.Shifts.{AreCommon}
use Rattle.lane_play.proofs.Machines.{common_more}
use Rattle.lane_play.proofs.planning.read_common.Goals as goal

pub loop-value-preserved : goal.loop-value-preserved
loop-value-preserved c =
    let values = c.args.values.now in
    let i = c.loop-value.value-index in
    let within : i < length values = c.loop-value-test.true in
    common_more values c.loop-value.table.items c.push.new.self.items i (get_or values i unknown) c.common.result within (get_or_default values i unknown (get_or values i unknown) within)
    (c.in_ok-push.ensures.items) c.common.ensures c.loop-value.invariant

pub returns : goal.returns
returns c =
    subst (λ (vs : List Lanes). AreCommon vs c.loop-value.table.items) (take_all c.loop-value.value-index c.args.values.now (let f = c.loop-value-test.false in omega arith)) c.loop-value.invariant
