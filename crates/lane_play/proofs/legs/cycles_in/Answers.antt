use Rattle.std.proofs.Common.{List, length, ap, ◌∙◌, arith}
use Rattle.std.proofs.lemmas.List.{take_all}
use Rattle.scan_play.specs.declared.cycles.Burst.{Burst}
use Rattle.scan_play.specs.Bursts.{all_cycles}
use Rattle.lane_play.proofs.PlayedLemmas.{burst_next, burst_within}
use Rattle.lane_play.proofs.legs.cycles_in.Goals as goal

pub overflow_add-count : goal.overflow_add-count
overflow_add-count c =
    let l = burst_within c.args.bursts.now c.loop-burst.burst-index c.burst-item.result c.loop-burst-test.true c.burst-item.is in
    let few = c.requires in
    let at = c.loop-burst.invariant in
    omega arith

pub loop-burst-preserved : goal.loop-burst-preserved
loop-burst-preserved c =
    let next = burst_next c.args.bursts.now c.loop-burst.burst-index c.burst-item.result c.loop-burst-test.true c.burst-item.is in
    let at = c.loop-burst.invariant in
    omega arith

pub returns : goal.returns
returns c = c.loop-burst.invariant ∙ ap (λ (bs : List Burst). length (all_cycles bs)) (take_all c.loop-burst.burst-index c.args.bursts.now c.loop-burst-test.false)
