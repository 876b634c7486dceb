use Rattle.std.proofs.Common.{get_or, ◌∙◌, ap}
use Rattle.std.proofs.lemmas.List.{get_or_default, take_all}
use Rattle.lane_play.specs.declared.packed.Lanes.{Lanes}
use Rattle.lane_play.specs.inner.Lanes.{lanes, unknown}
use Rattle.lane_play.proofs.PackLemmas.{unpack_more}
use Rattle.lane_play.proofs.packing.unpack.Goals as goal

pub loop-value-preserved : goal.loop-value-preserved
loop-value-preserved c =
    let state = c.args.state.now in
    let i = c.loop-value.value-index in
    let value : Lanes = get_or state i unknown in
    unpack_more c.args.k i state c.loop-value.own.items c.push.new.self.items value c.lane.result c.loop-value-test.true (get_or_default state i unknown value c.loop-value-test.true) c.lane.ensures
    c.in_ok-push.ensures.items c.loop-value.invariant

pub returns : goal.returns
returns c = c.loop-value.invariant ∙ ap (lanes c.args.k) (take_all c.loop-value.value-index c.args.state.now c.loop-value-test.false)
