use Rattle.std.proofs.Common.{◌<◌, length, length-set, ◌∙◌, arith}
use Rattle.worker.proofs.TellingLemmas.{within_next, tell_next, tell_end}
use Rattle.worker.proofs.telling.gathered.Goals as goal

pub next_told-requires : goal.next_told-requires
next_told-requires c =
    let inv = c.loop-fault.invariant in
    let within : c.part-part.result < length c.args.parts.now = omega (arith, c.part-part.ensures.within, c.requires.parts) in
    within_next c.args.core.now c.args.patterns.now c.args.deal.now.numbers.items c.args.faults.now c.loop-fault.fault-index c.fault-item.result c.args.parts.now c.loop-fault.nexts.items c.part-part.result c.index-parts-part.result
    c.index.result.now c.loop-fault-test.true c.fault-item.is inv.size c.part-part.ensures.value within c.index-parts-part.is c.index.ensures inv.left

pub loop-fault-preserved : goal.loop-fault-preserved
loop-fault-preserved c =
    let nexts = c.loop-fault.nexts.items in
    let part = c.part-part.result in
    let after = c.in_ok-one.after in
    let inv = c.loop-fault.invariant in
    let within : part < length c.args.parts.now = omega (arith, c.part-part.ensures.within, c.requires.parts) in
    let both = tell_next c.args.core.now c.args.patterns.now c.args.deal.now.numbers.items c.args.faults.now c.loop-fault.fault-index c.fault-item.result c.args.parts.now nexts part c.index-parts-part.result
    c.index.result.now c.loop-fault-test.true c.fault-item.is inv.size c.part-part.ensures.value within c.index-parts-part.is c.index.ensures inv.left after c.in_ok-one.one c.loop-fault.told.items c.add.new.list.items
    c.in_ok-one.ensures c.in_ok-add.ensures.items inv.goes in
    record { size = length-set nexts part after ∙ inv.size; left = both.0; goes = both.1 }

pub returns : goal.returns
returns c = tell_end c.args.core.now c.args.patterns.now c.args.deal.now.numbers.items c.args.faults.now c.loop-fault.fault-index c.loop-fault.told.items c.loop-fault-test.false c.loop-fault.invariant.goes
