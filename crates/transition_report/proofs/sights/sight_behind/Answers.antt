use Rattle.std.proofs.Common.{arith}
use Rattle.transition_report.proofs.SeenLemmas.{seen_behind, seen_small}
use Rattle.transition_report.proofs.sights.sight_behind.Goals as goal

pub overflow_add-result : goal.overflow_add-result
overflow_add-result c =
    let small = seen_small c.args.netlist.now c.args.chains.now c.args.place c.args.point c.sight_of-sight.result.cycle c.sight_of-sight.result.pin.now c.sound.ensures c.requires.chains
    (omega (arith, c.ranges.place.fits)) c.sight_of-sight.ensures.seen in
    omega (arith, small)

pub overflow_add-result-2 : goal.overflow_add-result-2
overflow_add-result-2 c =
    let small = seen_small c.args.netlist.now c.args.chains.now c.args.place c.args.point c.sight_of-sight.result.cycle c.sight_of-sight.result.pin.now c.sound.ensures c.requires.chains
    (omega (arith, c.ranges.place.fits)) c.sight_of-sight.ensures.seen in
    omega (arith, small)

pub returns-clause-seen : goal.returns-clause-seen
returns-clause-seen c =
    seen_behind c.args.netlist.now c.args.chains.now c.args.place c.args.point c.sight_of-sight.result.cycle c.sight_of-sight.result.pin.now c.sight_of-sight.ensures.seen
