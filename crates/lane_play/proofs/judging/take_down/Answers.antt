use Rattle.std.proofs.Common.{◌<◌, length, ap, ◌∙◌, arith}
use Rattle.lane_play.specs.inner.Verdicts.{said_of}
use Rattle.lane_play.proofs.VerdictLemmas.{one_down}
use Rattle.lane_play.proofs.judging.take_down.Goals as goal

pub loop-k-preserved : goal.loop-k-preserved
loop-k-preserved c =
    let say = said_of c.args.sayings.zero c.args.sayings.one c.args.sayings.unknown in
    let t = c.loop-k-test.true in
    let e = c.len-k-end.ensures in
    let v = c.args.verdicts.found.ok.0 in
    let s = c.loop-k.invariant.size in
    let l : c.loop-k.k < length c.loop-k.found.items = omega arith in
    one_down say c.args.shown c.loop-k.k c.args.verdicts.found.items c.loop-k.found.items c.index.result.now c.of.result c.first_of.result l c.index.ensures
    (c.of.ensures ∙ ap say c.lane.ensures) c.first_of.ensures c.loop-k.invariant
