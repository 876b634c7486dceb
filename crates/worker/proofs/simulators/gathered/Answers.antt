use Rattle.std.proofs.Common.{◌<◌, length, length-set, ◌∙◌, arith}
use Rattle.worker.proofs.GatheringLemmas.{gather_next, gather_end}
use Rattle.worker.proofs.simulators.gathered.Goals as goal

pub loop-place-preserved : goal.loop-place-preserved
loop-place-preserved c =
    let nexts = c.loop-place.nexts.items in
    let part = c.part-part.result in
    let after = c.in_ok-found.after in
    let inv = c.loop-place.invariant in
    let within : part < length c.args.parts.now = omega (arith, c.part-part.ensures.within, c.requires.parts) in
    let both = gather_next c.args.core.now c.args.patterns.now c.args.deal.now.numbers.items c.args.given.now c.loop-place.place c.index-given-place.result c.args.parts.now nexts part c.index-parts-part.result
    c.index.result.now after c.in_ok-found.found c.loop-place.all.items c.push_found.new.all.items c.loop-place-test.true c.index-given-place.is inv.size c.part-part.ensures.value within c.index-parts-part.is c.index.ensures
    c.in_ok-found.ensures c.in_ok-push_found.ensures inv.left inv.goes in
    record { size = length-set nexts part after ∙ inv.size; left = both.0; goes = both.1 }

pub returns : goal.returns
returns c = gather_end c.args.core.now c.args.patterns.now c.args.deal.now.numbers.items c.args.given.now c.loop-place.place c.loop-place.all.items c.loop-place-test.false c.loop-place.invariant.goes
